use Rattle.files.specs.Content.{starts_name}
use Rattle.laws.specs.Connective.{both}
use Rattle.fields.proofs.starts_name.Goals as goal

pub returns : goal.returns
unfolding starts_name both
returns c = cc
