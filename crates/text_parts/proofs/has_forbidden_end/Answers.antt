use Rattle.text_parts.proofs.ForbiddenLaws.{forbidden-ends}
use Rattle.text_parts.proofs.has_forbidden_end.Goals as goal

pub returns : goal.returns
returns c =
    forbidden-ends _ (c.is_forbidden.ensures _ c.end_limits.ensures) (c.is_forbidden-2.ensures _ c.end_limits-2.ensures)
