use Rattle.files.specs.RecordLayout.{value_of}
use borrow.Author.Rules.{rules}
use Rattle.resolving.proofs.value_code.Goals as goal

pub returns : goal.returns
unfolding value_of
returns c = (cc, search rules)
