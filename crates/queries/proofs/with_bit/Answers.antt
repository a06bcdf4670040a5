use mathlib.Core.Path.{refl}
use Rattle.queries.specs.Forms.{with_bit}
use Rattle.queries.proofs.with_bit.Goals as goal

pub returns : goal.returns
unfolding with_bit
returns c = rw c.place.ensures refl
