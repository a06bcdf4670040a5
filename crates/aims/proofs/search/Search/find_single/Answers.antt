-- `find_single` meets its contract: the type is no singleton of the other diagram, or one anyway, or none and two are searched for.
-- Assumes nothing.
use Rattle.aims.proofs.SingleLaws.{single-off, single-own, single-second, single-some}
use Rattle.laws.proofs.SearchLaws.{by-no, by-yes, is-yes}
use Rattle.queries.proofs.BreakLaws.{breaks-hit, breaks-none}
use mathlib.Core.Bool.{not}
use mathlib.Core.Path.{ap, refl}
use Rattle.aims.proofs.search.Search.find_single.Goals as goal

pub returns-then-not-has : goal.returns-then-not-has
returns-then-not-has c = breaks-none _ _ _ _ _ refl (single-off _ _ _ _ (by-no c.has.ensures (ap not c.if-not-has.true)))

pub returns-then-has : goal.returns-then-has
returns-then-has c = breaks-none _ _ _ _ _ refl (single-own _ _ _ _ c.requires (is-yes c.has-2.ensures c.if-has.true))

pub returns-in-Some : goal.returns-in-Some
returns-in-Some c =
    breaks-hit _ _ _ _ _ _ refl (single-some _ _ _ c.only-a.ensures (by-yes c.has.ensures (ap not c.if-not-has.false))) c.in-Some.ensures

pub returns : goal.returns
returns c =
    single-second _ _ _ c.only-a.ensures _ _ _ _ (by-yes c.has.ensures (ap not c.if-not-has.false)) (c.in_default.ensures.kept refl) c.ask_pairs.ensures
