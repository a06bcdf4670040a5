use Rattle.laws.specs.Connective.{both, either}
use Rattle.files.specs.RecordLayout.{link_of}
use Rattle.files.specs.RecordFile.{link_before}
use Rattle.checking.proofs.link_before.Goals as goal

pub returns : goal.returns
unfolding link_before link_of both either
returns c = cc
