use Rattle.files.specs.DiagramLayout.{type_of}
use Rattle.refusing.proofs.type_name.Goals as goal

pub returns : goal.returns
unfolding type_of
returns c = cc
