-- One type at a time: a type of the mask has exactly one object.
-- Assumes nothing.
use Rattle.std.specs.Prelude.{ℕ, true, ◌≡◌, eqb}
use Rattle.laws.specs.Bits.{bit}
use Rattle.laws.specs.Bounded.{tally}
use Rattle.growing.specs.World.{World}

pub record SingleKept (singles t : ℕ) (w : World) : Type 0 where
  pub at : bit t singles ≡ true → tally (λ o. eqb (w.kind o) t) w.size ≡ 1
