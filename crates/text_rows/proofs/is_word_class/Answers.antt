use Rattle.std.proofs.Common.{refl}
use Rattle.laws.specs.Connective.{both}
use Rattle.text_rows.proofs.is_word_class.Goals as goal

pub returns : goal.returns
unfolding both
returns c = refl
