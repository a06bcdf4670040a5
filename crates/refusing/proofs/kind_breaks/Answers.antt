use Rattle.refusing.proofs.NumberLaws.{kind-by}
use Rattle.refusing.proofs.kind_breaks.Goals as goal

pub returns : goal.returns
returns c = search kind-by
