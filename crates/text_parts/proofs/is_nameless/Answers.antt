use Rattle.texts.specs.Table.{declaration_in}
use Rattle.text_rows.specs.RowAt.{declaration_by}
use Rattle.text_parts.proofs.CountLaws.{no_name}
use Rattle.text_parts.proofs.is_nameless.Goals as goal

pub returns : goal.returns
unfolding declaration_by declaration_in
returns c = λ e. no_name _ c.count_for.ensures.0 c.count_for-2.ensures.0 c.count_for-3.ensures.0 e
