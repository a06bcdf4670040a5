-- `with_row` meets its contract: the query is the definition's, field by field.
-- Assumes nothing.
use Rattle.queries.specs.Forms.{rowed}
use mathlib.Core.Path.{refl}
use Rattle.queries.proofs.with_row.Goals as goal

pub returns : goal.returns
unfolding rowed
returns c = refl
