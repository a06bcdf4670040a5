use Rattle.files.specs.RecordLayout.{count_laid}
use Rattle.files.specs.Content.{at_end}
use Rattle.laws.specs.Connective.{both, either}
use Rattle.layouts.proofs.count_laid.Goals as goal

pub returns : goal.returns
unfolding count_laid both either at_end
returns c = cc
