use Rattle.type_tables.proofs.DueInLaws.{joined-again, joined-apart, joined-first}
use borrow.Author.Rules.{rules}
use Rattle.type_tables.proofs.join_due.Goals as goal

pub returns-then-e-eq0 : goal.returns-then-e-eq0
returns-then-e-eq0 c = search (rules, joined-first)

pub returns-then-e-v : goal.returns-then-e-v
returns-then-e-v c = search (rules, joined-again)

pub returns : goal.returns
returns c = search (rules, joined-apart)
