-- `count_wholes` meets its contract: how many objects the filter lets through.
-- Assumes nothing.
use borrow.Author.Rules.{rules}
use borrow.Author.Tests.{tests}
use Rattle.laws.proofs.RangeLaws.{count-range}
use Rattle.link_search.specs.Nets.{net_of}
use Rattle.link_search.specs.Families.{whole}
use Rattle.link_search.proofs.wholes.count_wholes.Goals as goal

pub returns : goal.returns
returns c =
    let a = c.args in
    count-range (whole a.wholes.now (net_of a.rows.now) a.p) 8 c.count.ensures.ran c.filter.ensures.source c.filter.ensures.closure (λ x b q k. search (rules, tests))
