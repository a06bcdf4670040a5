-- `with_column` meets its contract: the query is the definition's, field by field.
-- Assumes nothing.
use Rattle.queries.specs.Forms.{columned}
use mathlib.Core.Path.{refl}
use Rattle.queries.proofs.with_column.Goals as goal

pub returns : goal.returns
unfolding columned
returns c = refl
