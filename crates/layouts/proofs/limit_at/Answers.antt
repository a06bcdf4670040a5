use native.Mathlib.Omega.{arith}
use borrow.Author.Rules.{rules}
use Rattle.layouts.proofs.LimitLaws.{limit-narrow, limit-wide}
use Rattle.layouts.proofs.limit_at.Goals as goal

pub returns-then-edition-eq2 : goal.returns-then-edition-eq2
returns-then-edition-eq2 c = limit-wide c.args.edition c.args.c.now c.args.i c.byte-first.result c.byte.result c.if-edition-eq2.true (search rules) (search rules) (omega arith) (omega arith)

pub returns-else-edition-eq2 : goal.returns-else-edition-eq2
returns-else-edition-eq2 c = limit-narrow c.args.edition c.args.c.now c.args.i c.byte-first.result c.if-edition-eq2.false (search rules) c.from.ensures
