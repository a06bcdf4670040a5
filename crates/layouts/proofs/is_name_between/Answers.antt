use Rattle.files.specs.RecordLayout.{link_laid}
use Rattle.laws.specs.Connective.{both}
use Rattle.layouts.proofs.is_name_between.Goals as goal

pub returns : goal.returns
unfolding link_laid both
returns c = cc
