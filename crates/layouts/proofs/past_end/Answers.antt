use Rattle.files.specs.DiagramLayout.{past_end}
use Rattle.layouts.proofs.past_end.Goals as goal

pub returns : goal.returns
unfolding past_end
returns c = cc
