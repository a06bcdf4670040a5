use borrow.Author.Rules.{rules}
use borrow.Author.Tests.{tests}
use Rattle.weights.specs.Scales.{parts_scale}
use Rattle.weights.proofs.OwnLaws.{whole-by}
use Rattle.weights.proofs.whole_scale.Goals as goal

pub returns : goal.returns
unfolding parts_scale
returns c = whole-by c.args.from c.args.to c.args.own c.map_or-slot.result c.map_or-slot.ensures (λ a k. search (rules, tests))
