-- Two compositions at a time.
-- Assumes nothing.
use Rattle.std.specs.Prelude.{◌<◌, ◌≤◌, ℕ, Bool, ◌&&◌, true, ◌≡◌}
use Rattle.laws.specs.Bits.{bit}
use Rattle.growing.specs.World.{World}
use Rattle.worlds.specs.declared.Lines.{Lines}
use Rattle.worlds.specs.declared.Whole.{Whole}
use Rattle.worlds.specs.Lined.{whole_at}

-- no object of the types a is a target of two objects, of one of the types b in slot s, of one of the types c in slot u
pub record AllPartsAvoided (s u a b c : ℕ) (w : World) : Type 0 where
  pub at : (p o r : ℕ) → p < w.size → o < w.size → r < w.size → (o ≡ r → ⊥)
      → bit (w.kind p) a ≡ true → bit (w.kind o) b ≡ true → bit (w.kind r) c ≡ true → w.link s o p ≡ true → w.link u r p ≡ true → ⊥

-- o is a whole of p by the composition
abbrev pub is_whole_by : Whole → World → ℕ → ℕ → Bool
is_whole_by c w p o = bit (w.kind o) c.from && (bit (w.kind p) c.to && w.link c.slot o p)

-- no object is a part of two, by the first and by the second
pub record PairApart (c d : Whole) (w : World) : Type 0 where
  pub at : (p o r : ℕ) → p < w.size → o < w.size → r < w.size → (o ≡ r → ⊥) → is_whole_by c w p o ≡ true → is_whole_by d w p r ≡ true → ⊥

-- by composition j and each from j on; a pair and the pair turned round say the same
pub record PairsApart (x : Lines) (j : ℕ) (w : World) : Type 0 where
  pub at : (k : ℕ) → j ≤ k → k < 16 → PairApart (whole_at x j) (whole_at x k) w
