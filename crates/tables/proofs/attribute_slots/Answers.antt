use Rattle.tables.proofs.TableLaws.{attribute-slots-of}
use mathlib.Core.Path.{refl}
use native.Mathlib.Omega.{arith}
use Rattle.tables.proofs.attribute_slots.Goals as goal

pub overflow_cast-d : goal.overflow_cast-d
overflow_cast-d c = omega (arith, c.args.d.held.counts.attributes)

pub slots_of-requires : goal.slots_of-requires
slots_of-requires c = c.args.d.held.counts.attributes

pub returns : goal.returns
returns c = attribute-slots-of c.args.d.stored c.slots_of.result c.args.d.stored.attributes.count refl c.slots_of.ensures
