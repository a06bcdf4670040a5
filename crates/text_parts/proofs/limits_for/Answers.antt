use Rattle.std.proofs.Common.{refl}
use Rattle.text_parts.proofs.EndLaws.{limits-free, limits-one, limits-up}
use Rattle.text_parts.proofs.limits_for.Goals as goal

pub returns-in_default : goal.returns-in_default
returns-in_default c = limits-free _ _ _ refl (rw c.in_default.is at c.first_for.ensures) c.none_of.ensures

pub returns-then-not-is_passed : goal.returns-then-not-is_passed
returns-then-not-is_passed c =
    let f = rw c.in-Some.is at c.first_for.ensures in
    limits-one _ _ _ refl f.0 f.1 c.value_of-n.ensures c.is_passed.ensures c.if-not-is_passed.true

pub returns : goal.returns
returns c =
    let f = rw c.in-Some.is at c.first_for.ensures in
    limits-up _ _ _ refl f.0 f.1 c.value_of-n.ensures c.is_passed.ensures _ c.if-not-is_passed.false c.first_for-2.ensures c.none_of-2.ensures c.map_or.ensures
