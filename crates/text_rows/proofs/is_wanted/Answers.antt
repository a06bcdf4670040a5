use Rattle.laws.specs.Connective.{both, either}
use Rattle.text_rows.proofs.is_wanted.Goals as goal

pub returns : goal.returns
unfolding both either
returns c = rw c.is_word_class.ensures
