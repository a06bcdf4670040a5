-- One mirror at a time.
-- Assumes nothing.
use Rattle.std.specs.Prelude.{◌<◌, ℕ, false, true, ◌≡◌}
use Rattle.laws.specs.Bits.{bit}
use Rattle.growing.specs.World.{World}
use Rattle.worlds.specs.declared.Mirror.{Mirror}

-- no object of the types a has a link in slot s to one of the types b without the link back in slot u
pub record AllHalvesAvoided (s u a b : ℕ) (w : World) : Type 0 where
  pub at : (o p : ℕ) → o < w.size → p < w.size → bit (w.kind o) a ≡ true → bit (w.kind p) b ≡ true
      → w.link s o p ≡ true → w.link u p o ≡ false → ⊥

-- what a mirror asks
pub record MirrorKept (m : Mirror) (w : World) : Type 0 where
  pub at : (o p : ℕ) → o < w.size → p < w.size → bit (w.kind o) m.from ≡ true → bit (w.kind p) m.to ≡ true → w.link m.right o p ≡ w.link m.left p o
