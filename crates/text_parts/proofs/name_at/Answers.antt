use Rattle.texts.specs.Table.{declaration_in}
use Rattle.text_rows.specs.RowAt.{declaration_by}
use Rattle.text_parts.proofs.name_at.Goals as goal

pub returns : goal.returns
unfolding declaration_by declaration_in
returns c = cc
