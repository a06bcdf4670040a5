-- `find_parts` meets its contract: the two are others, or one of them is the target itself.
-- Assumes nothing.
use mathlib.Core.Path.{refl}
use Rattle.aims.proofs.WholeLaws.{parts_first, parts_last, parts-own}
use Rattle.queries.proofs.BreakLaws.{breaks-hit}
use Rattle.aims.proofs.search.Search.find_parts.Goals as goal

pub returns-in-Some : goal.returns-in-Some
returns-in-Some c = breaks-hit _ _ _ _ _ _ refl (parts_first _ _ _ _ _) c.in-Some.ensures

pub returns-in-Some-ask_own_parts : goal.returns-in-Some-ask_own_parts
returns-in-Some-ask_own_parts c = breaks-hit _ _ _ _ _ _ refl (λ w. parts-own _ _ _ _ _ w _ c.common.ensures) c.in-Some-ask_own_parts.ensures

pub returns : goal.returns
returns c =
    parts_last _ _ _ _ _ _ _ _ _ _ _ c.common.ensures c.common-2.ensures (c.in_default.ensures.kept refl) (c.in_default-ask_own_parts.ensures.kept refl) c.ask_own_parts-2.ensures
