use borrow.Author.Rules.{rules}
use borrow.Author.Tests.{tests}
use Rattle.weights.specs.Numbers.{in_mask}
use Rattle.weights.specs.Scales.{column_most}
use Rattle.weights.proofs.OwnLaws.{own-by}
use Rattle.weights.proofs.column_most.Goals as goal

pub returns : goal.returns
unfolding column_most in_mask
returns c = own-by (λ o. column_most o c.args.s c.args.from c.args.may) c.args.own c.map_or.ensures (λ a k. search (rules, tests))
