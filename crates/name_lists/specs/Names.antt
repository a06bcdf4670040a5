-- The names that a list in memory holds.
-- Assumes nothing.
use Rattle.std.specs.Prelude.{List}
use Rattle.laws.specs.Lists.{listed}
use Rattle.files.specs.Name.{Name}
use Rattle.fields.specs.Slot.{slot_name}
use Rattle.name_lists.specs.declared.list.Names.{Names}

unfoldable pub names_in : Names → List Name
names_in n = listed (λ i. slot_name n.names i) n.count
