use borrow.Author.Rules.{rules}
use borrow.Author.Tests.{tests}
use Rattle.laws.proofs.RangeLaws.{count-range}
use Rattle.clashes.specs.Refuted.{must_whole}
use Rattle.clashes.proofs.wholes.count_wholes.Goals as goal

pub returns : goal.returns
returns c =
    let a = c.args in
    count-range (must_whole a.tables.now.lines a.must.now a.types.now.at a.p) a.seeds c.count.ensures.ran c.filter.ensures.source c.filter.ensures.closure (λ x b q k. search (rules, tests))
