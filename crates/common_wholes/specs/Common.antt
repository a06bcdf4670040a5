-- Parts that have a whole, and the types that it can have.
-- Assumes nothing.
use Rattle.std.specs.Prelude.{◌<◌, ◌≤◌, ℕ, true, ◌≡◌}
use Rattle.laws.specs.Bits.{bit}
use Rattle.laws.specs.Bounded.{tally}
use Rattle.growing.specs.World.{World}
use Rattle.worlds.specs.declared.Lines.{Lines}
use Rattle.worlds.specs.Kept.{ColumnsKept, WholesKept, whole_of}

-- object p of w has a whole, and this has a type of the mask
pub record WholeIn (x : Lines) (mask : ℕ) (w : World) (p : ℕ) : Type 0 where
  pub there : 1 ≤ tally (whole_of x w p) w.size
  pub typed : (o : ℕ) → o < w.size → whole_of x w p o ≡ true → bit (w.kind o) mask ≡ true

-- so has each object of type t, where columns and wholes are kept
pub record Common (x : Lines) (t mask : ℕ) : Type 0 where
  pub at : (w : World) → ColumnsKept x w → WholesKept x w → (p : ℕ) → p < w.size → w.kind p ≡ t → WholeIn x mask w p
