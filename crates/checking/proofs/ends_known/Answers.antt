use Rattle.laws.specs.Connective.{both}
use Rattle.files.specs.RecordLayout.{link_of}
use Rattle.checking.proofs.ends_known.Goals as goal

pub returns : goal.returns
unfolding link_of both
returns c = cc
