use Rattle.sheets.specs.LinesBy.{end_if}
use borrow.Author.Rules.{rules}
use Rattle.sheets.proofs.lines.end_if.Goals as goal

pub returns-then-right : goal.returns-then-right
unfolding end_if
returns-then-right c = (cc, search rules)

pub returns-else-right : goal.returns-else-right
unfolding end_if
returns-else-right c = (cc, search rules)
