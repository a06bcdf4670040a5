use Rattle.coding.proofs.OperandLaws.{next-call, next-none}
use borrow.Author.Rules.{rules}
use Rattle.coding.proofs.read_next.Goals as goal

pub returns-then-code-used : goal.returns-then-code-used
returns-then-code-used c = search (next-call, rules)

pub returns : goal.returns
returns c = search (next-none, rules)
