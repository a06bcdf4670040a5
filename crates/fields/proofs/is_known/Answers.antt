use Rattle.fields.specs.Slot.{known_in}
use Rattle.laws.specs.Connective.{both, either}
use Rattle.fields.proofs.is_known.Goals as goal

pub returns : goal.returns
unfolding known_in both either
returns c = cc
