use Rattle.text_parts.proofs.EndLaws.{role-by}
use Rattle.text_parts.proofs.role_word.Goals as goal

pub returns : goal.returns
returns c = role-by _ _ _ _ c.written_role.ensures c.end_type.ensures c.unwrap_or.ensures
