use Rattle.tables.proofs.CodedLaws.{coded-codes}
use Rattle.tables.proofs.Values.new.Goals as goal

pub invariant_of-result : goal.invariant_of-result
invariant_of-result c = record { codes = coded-codes c.requires.0; instances = c.requires.1; slots = c.attribute_slots.ensures }
