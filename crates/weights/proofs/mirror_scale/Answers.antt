use Rattle.weights.specs.Scales.{mirror_scale}
use Rattle.weights.proofs.mirror_scale.Goals as goal

pub returns : goal.returns
unfolding mirror_scale
returns c = cc
