use Prim.Native.Nat.{◌*◌}
use mathlib.Core.Path.{refl}
use native.Mathlib.Omega.{arith}
use Rattle.type_tables.proofs.DueInLaws.{dues-are, types-small}
use Rattle.type_tables.proofs.due_values.Goals as goal

pub invariant_of-declared : goal.invariant_of-declared
invariant_of-declared c = record { bounds = types-small c.args.d.now.stored c.args.d.now.held }

pub returns : goal.returns
returns c =
    let d = c.args.d.now in
    dues-are d.stored d.held c.attribute_slots-slots.result c.dues.result d.stored.attributes.count (d.stored.types.count * 32) c.attribute_slots-slots.ensures refl refl (λ x h. c.dues.ensures x (omega (arith, d.held.counts.types)) h)
