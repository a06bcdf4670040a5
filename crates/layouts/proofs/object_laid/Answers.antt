use Rattle.files.specs.RecordLayout.{object_laid}
use Rattle.files.specs.Content.{at_end}
use Rattle.laws.specs.Connective.{both, either}
use Rattle.layouts.proofs.object_laid.Goals as goal

pub returns : goal.returns
unfolding object_laid both either at_end
returns c = cc
