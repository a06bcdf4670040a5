use Rattle.refusing.specs.Numbers.{whole_right}
use Rattle.files.specs.Diagram.{is_composition}
use Rattle.files.specs.DiagramLayout.{association_of}
use Rattle.laws.specs.Connective.{both}
use Rattle.refusing.proofs.whole_right.Goals as goal

pub returns : goal.returns
unfolding whole_right is_composition association_of both
returns c e = cc
