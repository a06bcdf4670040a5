use mathlib.Core.Path.{◌≡◌}
use Rattle.std.specs.Prelude.{None, Option}
use Rattle.fields.specs.declared.Field.{Field}
use Rattle.resolving.proofs.ReadLaws.{reads-begin, reads-cut, reads-next, reads_end}
use Rattle.resolving.proofs.resolve.Goals as goal

pub loop-field-init : goal.loop-field-init
loop-field-init c = reads-begin c.empty_record-m.ensures

pub loop-field-preserved : goal.loop-field-preserved
loop-field-preserved c =
    reads-next c.loop-field.invariant c.in-Ok-Some.field (rw c.in-Ok-Some.field-0-is at c.in-Ok-Some.ensures) c.put_field.ensures

pub returns-in_default : goal.returns-in_default
returns-in_default c =
    let none : ◌≡◌ {A = Option Field} c.in_default.field-0 None = cc in
    reads_end c.loop-field.invariant (rw (c.in_default.is, none) at c.read_field.ensures)

pub returns-in_default-2 : goal.returns-in_default-2
returns-in_default-2 c = reads-cut c.loop-field.invariant (rw c.in_default.is at c.read_field.ensures).0
