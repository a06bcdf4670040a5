use mathlib.Core.Path.{◌≡◌}
use Rattle.type_tables.specs.ValuesIn.{due_in}
use Rattle.type_tables.proofs.Declared.due.Given as goal

abbrev pub invariant-loop-a : goal.invariant-loop-a
invariant-loop-a l = l.e ≡ due_in l.set l.self.attributes.now.owners l.self.attributes.now.types l.self.slots.now l.s l.a
