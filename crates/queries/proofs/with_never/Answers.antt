-- `with_never` meets its contract: the query is the definition's, field by field.
-- Assumes nothing.
use Rattle.queries.specs.Forms.{avoiding}
use mathlib.Core.Path.{refl}
use Rattle.queries.proofs.with_never.Goals as goal

pub returns : goal.returns
unfolding avoiding
returns c = refl
