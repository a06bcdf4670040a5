use Rattle.type_tables.specs.RowsIn.{is_subtype}
use Rattle.type_tables.proofs.is_subtype.Goals as goal

pub returns : goal.returns
unfolding is_subtype
returns c = cc
