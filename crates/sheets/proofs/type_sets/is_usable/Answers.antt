use Rattle.sheets.specs.MasksBy.{usable_in}
use Rattle.laws.specs.Connective.{both, either}
use Rattle.sheets.proofs.type_sets.is_usable.Goals as goal

pub returns : goal.returns
unfolding usable_in both either
returns c = cc
