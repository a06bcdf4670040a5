use Rattle.resolving.specs.Lookup.{is_code_in}
use Rattle.laws.specs.Connective.{both}
use Rattle.resolving.proofs.is_code.Goals as goal

pub returns : goal.returns
unfolding is_code_in both
returns c = cc
