use Rattle.std.proofs.Common.{◌∙◌, ap, not}
use Rattle.text_parts.proofs.ForbiddenLaws.{forbidden-is}
use Rattle.text_parts.proofs.is_forbidden.Goals as goal

pub returns : goal.returns
returns c = λ m k. ap not c.limits_laid.ensures ∙ forbidden-is _ m k
