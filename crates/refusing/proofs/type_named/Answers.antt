use Rattle.refusing.proofs.NumberLaws.{type-named}
use Rattle.refusing.proofs.type_named.Goals as goal

pub returns : goal.returns
returns c = search type-named
