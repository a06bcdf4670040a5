use borrow.Author.Rules.{rules}
use borrow.Author.Tests.{tests}
use Rattle.weights.specs.Scales.{row_least}
use Rattle.weights.proofs.OwnLaws.{own-by}
use Rattle.weights.proofs.row_least.Goals as goal

pub returns : goal.returns
unfolding row_least
returns c = own-by (λ o. row_least o c.args.s) c.args.own c.map_or.ensures (λ a k. search (rules, tests))
