use Rattle.files.specs.DiagramLayout.{attribute_laid}
use Rattle.files.specs.RecordLayout.{link_laid}
use Rattle.layouts.proofs.attribute_laid.Goals as goal

pub returns : goal.returns
unfolding attribute_laid link_laid
returns c = c.is_name_between.ensures
