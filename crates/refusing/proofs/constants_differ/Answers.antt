use Rattle.refusing.proofs.NumberLaws.{constants-by}
use Rattle.refusing.proofs.constants_differ.Goals as goal

pub returns : goal.returns
returns c = search constants-by
