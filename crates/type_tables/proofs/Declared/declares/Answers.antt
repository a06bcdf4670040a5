use Rattle.laws.specs.Connective.{both}
use Rattle.type_tables.specs.ValuesIn.{declares_in}
use Rattle.type_tables.proofs.Declared.declares.Goals as goal

pub returns : goal.returns
unfolding declares_in both
returns c = cc
