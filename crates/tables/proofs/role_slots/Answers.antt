use Rattle.tables.proofs.TableLaws.{role-slots-of}
use mathlib.Core.Path.{refl}
use native.Mathlib.Omega.{arith}
use Prim.Native.Nat.{◌*◌}
use Rattle.tables.proofs.role_slots.Goals as goal

pub overflow_mul-d : goal.overflow_mul-d
overflow_mul-d c = omega (arith, c.args.d.held.counts.associations)

pub overflow_cast-d : goal.overflow_cast-d
overflow_cast-d c = omega (arith, c.args.d.held.counts.associations)

pub slots_of-requires : goal.slots_of-requires
slots_of-requires c = omega (arith, c.args.d.held.counts.associations)

pub returns : goal.returns
returns c = role-slots-of c.args.d.stored c.slots_of.result (c.args.d.stored.associations.count * 2) refl c.slots_of.ensures
