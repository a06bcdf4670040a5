-- `needs::count_candidates` meets its contract.
-- Assumes nothing.
use mathlib.Core.Bool.{◌&&◌, not}
use lib.ListN.{get_or}
use borrow.Author.Rules.{rules}
use borrow.Author.Tests.{tests}
use Rattle.laws.specs.Bits.{bit}
use Rattle.laws.proofs.RangeLaws.{count-range}
use Rattle.demands.proofs.needs.count_candidates.Goals as goal

pub returns : goal.returns
returns c =
    let a = c.args in
    count-range (λ o. bit (get_or a.s.types.at o 0) a.mask && not (bit o a.shut)) a.s.k c.count.ensures.ran c.filter.ensures.source c.filter.ensures.closure (λ x b q k. search (rules, tests))
