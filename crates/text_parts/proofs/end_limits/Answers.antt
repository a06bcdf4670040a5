use Rattle.text_parts.proofs.EndLaws.{limits-left, limits-right}
use Rattle.text_parts.proofs.end_limits.Goals as goal

pub returns-in-Left : goal.returns-in-Left
returns-in-Left c = limits-left _ c.in-Left.is c.limits_for.ensures

pub returns-in-Right : goal.returns-in-Right
returns-in-Right c = limits-right _ c.in-Right.is c.limits_for-in-Right.ensures
