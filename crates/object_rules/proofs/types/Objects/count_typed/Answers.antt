use borrow.Author.Rules.{rules}
use borrow.Author.Tests.{tests}
use Rattle.laws.proofs.RangeLaws.{count-range}
use Rattle.object_rules.specs.TypesIn.{typed_at}
use Rattle.object_rules.proofs.types.Objects.count_typed.Goals as goal

pub returns : goal.returns
returns c =
    let m = c.args.self.now.memory.now in
    count-range (typed_at m.types c.args.i) m.count c.count.ensures.ran c.filter.ensures.source c.filter.ensures.closure (λ x b q k. search (rules, tests))
