use Rattle.weights.specs.Numbers.{in_mask, line_number, whole_row}
use Rattle.weights.proofs.whole_row.Goals as goal

pub returns : goal.returns
unfolding whole_row line_number in_mask
returns c = cc
