use mathlib.Core.Path.{refl}
use Rattle.loading.proofs.ReaderLaws.{start-held, start-says, reply-empty, reply-accepted, reply-cut, reply-refused, field-on}
use Rattle.loading.proofs.read_diagram.Goals as goal

pub loop-field-init : goal.loop-field-init
loop-field-init c = search (start-held, start-says)

pub returns-in_err-field : goal.returns-in_err-field
returns-in_err-field c = reply-cut _ _ _ _ _ c.loop-field.invariant.1 _ _ c.in_err-field.ensures c.from_residual.ensures.1

pub returns-in_err-check_field : goal.returns-in_err-check_field
returns-in_err-check_field c =
    reply-refused _ _ _ _ _ c.loop-field.invariant.1 c.in-Some.field (rw c.in-Some.is at c.in_ok-field.ensures) _ _ c.in_err-check_field.ensures c.from_residual-in_err-check_field.ensures.1

pub loop-field-preserved : goal.loop-field-preserved
loop-field-preserved c = (
  c.add_field.ensures.held,
  field-on _ _ _ _ _ c.loop-field.invariant.1 c.in-Some.field (rw c.in-Some.is at c.in_ok-field.ensures) _ c.in_ok-check_field.ensures c.add_field.ensures,
)

pub returns-then-last-eq0 : goal.returns-then-last-eq0
returns-then-last-eq0 c = reply-empty _ _ _ _ _ c.loop-field.invariant.1 (rw c.in_default.is at c.in_ok-field.ensures) c.if-last-eq0.true

pub returns : goal.returns
returns c = reply-accepted _ _ _ _ _ c.loop-field.invariant.1 _ refl (rw c.in_default.is at c.in_ok-field.ensures) c.if-last-eq0.false
