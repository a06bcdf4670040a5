use Rattle.files.specs.Content.{name_in}
use Rattle.fields.proofs.name_in.Goals as goal

pub returns : goal.returns
unfolding name_in
returns c = cc
