use Rattle.laws.specs.Connective.{both}
use Rattle.sheets.proofs.Placed.is_shown.Goals as goal

pub returns : goal.returns
unfolding both
returns c = cc
