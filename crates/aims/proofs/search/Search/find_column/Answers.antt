-- `find_column` meets its contract: one limit after the other.
-- Assumes nothing.
use mathlib.Core.Path.{refl}
use Rattle.aims.proofs.ColumnLaws.{column-both, column-least, column-most}
use Rattle.queries.proofs.BreakLaws.{breaks-hit, breaks-last}
use Rattle.aims.proofs.search.Search.find_column.Goals as goal

pub returns-in-Some : goal.returns-in-Some
returns-in-Some c = breaks-hit _ _ _ _ _ _ refl (column-least c.args.column.now) c.in-Some.ensures

pub returns : goal.returns
returns c =
    breaks-last _ _ _ _ _ _ (column-most c.args.column.now) (λ w h e. column-both c.args.column.now w (c.in_default.ensures.kept refl w h e)) c.find_many.ensures
