use Rattle.std.proofs.Common.{◌∙◌}
use Rattle.texts.specs.Table.{passes}
use Rattle.text_rows.proofs.NotedLaws.{passed-is}
use Rattle.text_rows.proofs.Scanned.is_passed.Goals as goal

pub returns : goal.returns
unfolding passes
returns c = c.is_some.ensures ∙ passed-is _ c.class_for.ensures.0 c.class_for.ensures.1
