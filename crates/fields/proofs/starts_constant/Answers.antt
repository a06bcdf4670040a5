use Rattle.files.specs.Content.{starts_constant}
use Rattle.laws.specs.Connective.{both, either}
use Rattle.fields.proofs.starts_constant.Goals as goal

pub returns : goal.returns
unfolding starts_constant both either
returns c = cc
