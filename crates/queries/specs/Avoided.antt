-- What no world with certain tables has: the objects that a query asks for. Types are given as masks.
-- Assumes nothing.
use Rattle.std.specs.Prelude.{◌<◌, ℕ, false, true, ◌≡◌}
use Rattle.laws.specs.Bits.{bit}
use Rattle.growing.specs.World.{World, source_count, target_count}
use Rattle.link_search.specs.Nets.{InLimits}

-- there are no two objects of the types a
pub record PairsAvoided (a : ℕ) (w : World) : Type 0 where
  pub at : (o p : ℕ) → o < w.size → p < w.size → (o ≡ p → ⊥) → bit (w.kind o) a ≡ true → bit (w.kind p) a ≡ true → ⊥

-- no object of the types a has a link in slot s to another, of the types b
pub record LinksAvoided (s a b : ℕ) (w : World) : Type 0 where
  pub at : (o p : ℕ) → o < w.size → p < w.size → (o ≡ p → ⊥) → bit (w.kind o) a ≡ true → bit (w.kind p) b ≡ true → w.link s o p ≡ true → ⊥

-- no object of the types a has a link in slot s to itself
pub record LoopsAvoided (s a : ℕ) (w : World) : Type 0 where
  pub at : (o : ℕ) → o < w.size → bit (w.kind o) a ≡ true → w.link s o o ≡ true → ⊥

-- no object of the types a has a number of targets in slot s that lies within the limits
pub record RowsAvoided (s a low high : ℕ) (w : World) : Type 0 where
  pub at : (o : ℕ) → o < w.size → bit (w.kind o) a ≡ true → InLimits low high (target_count w s o) → ⊥

-- no object of the types a has a number of sources in slot s, of the types `from`, that lies within the limits
pub record ColumnsAvoided (s a from low high : ℕ) (w : World) : Type 0 where
  pub at : (p : ℕ) → p < w.size → bit (w.kind p) a ≡ true → InLimits low high (source_count w s from p) → ⊥

-- no object of the types a has a link in slot s to another, of the types b, without the link back in slot u
pub record HalvesAvoided (s u a b : ℕ) (w : World) : Type 0 where
  pub at : (o p : ℕ) → o < w.size → p < w.size → (o ≡ p → ⊥) → bit (w.kind o) a ≡ true → bit (w.kind p) b ≡ true
      → w.link s o p ≡ true → w.link u p o ≡ false → ⊥

-- no object of the types a has a link in slot s to itself without the one in slot u
pub record HalfLoopsAvoided (s u a : ℕ) (w : World) : Type 0 where
  pub at : (o : ℕ) → o < w.size → bit (w.kind o) a ≡ true → w.link s o o ≡ true → w.link u o o ≡ false → ⊥

-- no object of the types a is a target of two others, of one of the types b in slot s, of one of the types c in slot u
pub record PartsAvoided (s u a b c : ℕ) (w : World) : Type 0 where
  pub at : (p o r : ℕ) → p < w.size → o < w.size → r < w.size → (p ≡ o → ⊥) → (p ≡ r → ⊥) → (o ≡ r → ⊥)
      → bit (w.kind p) a ≡ true → bit (w.kind o) b ≡ true → bit (w.kind r) c ≡ true → w.link s o p ≡ true → w.link u r p ≡ true → ⊥

-- no object of the types a is a target of its own in slot s and of another, of the types b, in slot u
pub record OwnPartsAvoided (s u a b : ℕ) (w : World) : Type 0 where
  pub at : (p r : ℕ) → p < w.size → r < w.size → (p ≡ r → ⊥) → bit (w.kind p) a ≡ true → bit (w.kind r) b ≡ true
      → w.link s p p ≡ true → w.link u r p ≡ true → ⊥
