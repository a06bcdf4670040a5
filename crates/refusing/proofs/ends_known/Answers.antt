use Rattle.refusing.specs.Numbers.{ends_known}
use Rattle.files.specs.DiagramLayout.{association_of, end_of}
use Rattle.laws.specs.Connective.{both}
use Rattle.refusing.proofs.ends_known.Goals as goal

pub returns : goal.returns
unfolding ends_known association_of end_of both
returns c = cc
