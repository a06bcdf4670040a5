use Rattle.refusing.specs.Numbers.{attribute_known}
use Rattle.files.specs.DiagramLayout.{attribute_of}
use Rattle.laws.specs.Connective.{both}
use Rattle.refusing.proofs.attribute_known.Goals as goal

pub returns : goal.returns
unfolding attribute_known attribute_of both
returns c = cc
