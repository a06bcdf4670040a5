use mathlib.Core.Path.{refl}
use Rattle.queries.specs.Forms.{barred}
use Rattle.queries.proofs.with_bar.Goals as goal

pub returns : goal.returns
unfolding barred
returns c = rw c.with_bit.ensures refl
