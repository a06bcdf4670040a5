-- `with_seeds` meets its contract: the query is the definition's, field by field.
-- Assumes nothing.
use Rattle.queries.specs.Forms.{seeded}
use mathlib.Core.Path.{refl}
use Rattle.queries.proofs.with_seeds.Goals as goal

pub returns : goal.returns
unfolding seeded
returns c = refl
