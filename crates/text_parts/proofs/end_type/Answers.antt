use Rattle.std.proofs.Common.{refl}
use Rattle.texts.specs.Table.{declaration_in, end_for}
use Rattle.text_rows.specs.RowAt.{declaration_by}
use Rattle.text_parts.proofs.EndLaws.{type-word}
use Rattle.text_parts.proofs.end_type.Goals as goal

pub returns-in-Left : goal.returns-in-Left
unfolding declaration_by declaration_in end_for
returns-in-Left c = rw c.in-Left.is (type-word _ _ _ c.first_for.ensures refl c.unwrap_or.ensures)

pub returns-in-Right : goal.returns-in-Right
unfolding declaration_by declaration_in end_for
returns-in-Right c = rw c.in-Right.is (type-word _ _ _ c.first_for-in-Right.ensures refl c.unwrap_or-in-Right.ensures)
