use Rattle.laws.specs.Connective.{both, either}
use Rattle.files.specs.RecordLayout.{value_of}
use Rattle.files.specs.RecordFile.{value_before}
use Rattle.checking.proofs.value_before.Goals as goal

pub returns : goal.returns
unfolding value_before value_of both either
returns c = cc
