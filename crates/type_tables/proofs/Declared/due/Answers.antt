use Rattle.type_tables.proofs.DueInLaws.{due-begin, due-next, more-declared, more-other}
use borrow.Author.Rules.{rules}
use Rattle.type_tables.proofs.Declared.due.Goals as goal
use Rattle.type_tables.proofs.Declared.due.Goals.{else-declares, then-declares}

pub loop-a-init : goal.loop-a-init
loop-a-init c = search (rules, due-begin)

pub loop-a-preserved : goal.loop-a-preserved
loop-a-preserved c = elim c.if-declares.branch [
  | then-declares w ↦ search (rules, due-next, more-declared)
  | else-declares w ↦ search (rules, due-next, more-other)
]
