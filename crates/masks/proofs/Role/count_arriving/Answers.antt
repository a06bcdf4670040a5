use borrow.Author.Rules.{rules}
use borrow.Author.Tests.{tests}
use Rattle.laws.proofs.RangeLaws.{count-range}
use Rattle.masks.specs.Masks.{arrives_from, arriving}
use Rattle.masks.proofs.Role.count_arriving.Goals as goal

pub returns : goal.returns
unfolding arriving
returns c =
    let v = c.args.self.now in
    count-range (arrives_from v.links.now v.slot v.from c.args.p) v.count c.count.ensures.ran c.filter.ensures.source c.filter.ensures.closure (λ x b q k. search (rules, tests))
