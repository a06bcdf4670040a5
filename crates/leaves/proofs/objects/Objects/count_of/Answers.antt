-- `count_of` meets its contract: how many objects the filter lets through.
-- Assumes nothing.
use borrow.Author.Rules.{rules}
use borrow.Author.Tests.{tests}
use lib.Dec.{eqb}
use lib.ListN.{get_or}
use Rattle.laws.proofs.RangeLaws.{count-range}
use Rattle.leaves.specs.Fitting.{count_of}
use Rattle.leaves.proofs.objects.Objects.count_of.Goals as goal

pub returns : goal.returns
unfolding count_of
returns c =
    let a = c.args.self.now in
    count-range (λ o. eqb (get_or a.types.now.at o 0) c.args.t) a.n c.count.ensures.ran c.filter.ensures.source c.filter.ensures.closure (λ x b q k. search (rules, tests))
