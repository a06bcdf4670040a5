use Rattle.weights.specs.Scales.{columns_scale}
use Rattle.weights.proofs.columns_scale.Goals as goal

pub returns : goal.returns
unfolding columns_scale
returns c = cc
