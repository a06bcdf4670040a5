use mathlib.Core.Path.{refl}
use Rattle.checking.proofs.ReadingLaws.{reading-begin, reading-cut, reading-end, reading-on, reading-refused}
use Rattle.checking.proofs.check_record.Goals as goal

pub loop-field-init : goal.loop-field-init
loop-field-init c = reading-begin c.args.file.now refl refl

pub returns-in_err-field : goal.returns-in_err-field
returns-in_err-field c = reading-cut _ _ _ c.loop-field.invariant _ _ c.in_err-field.ensures c.from_residual.ensures.1

pub returns-in_err-check_field : goal.returns-in_err-check_field
returns-in_err-check_field c =
    reading-refused _ _ _ c.loop-field.invariant c.in-Some.field (rw c.in-Some.is at c.in_ok-field.ensures) _ _ c.in_err-check_field.ensures
    c.from_residual-in_err-check_field.ensures.1

pub loop-field-preserved : goal.loop-field-preserved
loop-field-preserved c =
    reading-on _ _ _ c.loop-field.invariant c.in-Some.field (rw c.in-Some.is at c.in_ok-field.ensures) c.in_ok-check_field.ensures c.count_field-s.ensures

pub returns : goal.returns
returns c = reading-end _ _ _ c.loop-field.invariant (rw c.in_default.is at c.in_ok-field.ensures) c.check_end.ensures
