use Rattle.files.specs.Content.{past_name}
use Rattle.fields.proofs.past_name.Goals as goal

pub returns : goal.returns
unfolding past_name
returns c = cc
