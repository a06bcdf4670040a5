use Rattle.weights.specs.Scales.{rows_scale}
use Rattle.weights.proofs.rows_scale.Goals as goal

pub returns : goal.returns
unfolding rows_scale
returns c = cc
