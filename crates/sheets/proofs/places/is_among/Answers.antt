use Rattle.laws.specs.Connective.{both}
use Rattle.sheets.proofs.places.is_among.Goals as goal

pub returns : goal.returns
unfolding both
returns c = cc
