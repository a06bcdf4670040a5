use Rattle.sheets.specs.MasksBy.{fine_in}
use Rattle.sheets.proofs.type_sets.is_fine.Goals as goal

pub returns : goal.returns
unfolding fine_in
returns c = cc
