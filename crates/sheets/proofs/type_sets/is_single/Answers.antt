use Rattle.sheets.specs.MasksBy.{single_in}
use Rattle.sheets.proofs.type_sets.is_single.Goals as goal

pub returns : goal.returns
unfolding single_in
returns c = cc
