use mathlib.Core.Path.{refl}
use Rattle.queries.specs.Forms.{linked}
use Rattle.queries.proofs.with_link.Goals as goal

pub returns : goal.returns
unfolding linked
returns c = rw c.with_bit.ensures refl
