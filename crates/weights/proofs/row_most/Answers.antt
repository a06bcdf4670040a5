use borrow.Author.Rules.{rules}
use borrow.Author.Tests.{tests}
use Rattle.weights.specs.Scales.{row_most}
use Rattle.weights.proofs.OwnLaws.{own-by}
use Rattle.weights.proofs.row_most.Goals as goal

pub returns : goal.returns
unfolding row_most
returns c = own-by (λ o. row_most o c.args.s) c.args.own c.map_or.ensures (λ a k. search (rules, tests))
