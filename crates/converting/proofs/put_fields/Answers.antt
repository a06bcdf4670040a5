use Prim.Native.Nat.{◌+◌, ◌≤◌}
use native.Mathlib.Omega.{arith}
use mathlib.Core.Path.{◌≡◌}
use lib.ListN.{length, length-drop, length-take}
use Rattle.std.specs.Prelude.{None, Option}
use Rattle.fields.specs.declared.Field.{Field}
use Rattle.files.specs.EditionFields.{in_edition}
use Rattle.files.proofs.SizeLaws.{field-length}
use Rattle.converting.proofs.LoopLaws.{begins, ends, front-fits, goes_on, room}
use borrow.Author.Rules.{rules}
use Rattle.converting.proofs.put_fields.Goals as goal

pub loop-field-init : goal.loop-field-init
loop-field-init c = begins c.args.from c.args.to c.args.file.now c.args.out.now c.requires.0

pub put_converted-n-requires : goal.put_converted-n-requires
put_converted-n-requires c =
    let g = c.loop-field.invariant in
    let f = c.in-Ok-Some.field in
    let front = rw c.in-Ok-Some.field-0-is at c.in-Ok-Some.ensures in
    let h = room g f front c.requires.1 in
    let long = g.long in
    (front-fits g f front, simp (length-take, length-drop) (omega arith))

pub overflow_add-at : goal.overflow_add-at
overflow_add-at c =
    let g = c.loop-field.invariant in
    let f = c.in-Ok-Some.field in
    let front = rw c.in-Ok-Some.field-0-is at c.in-Ok-Some.ensures in
    let h = room g f front c.requires.1 in
    let w : c.loop-field.at + c.put_converted-n.result ≤ length c.args.out.now =
    omega (arith, c.put_converted-n.ensures.length-is, field-length f.tag (in_edition c.args.from c.args.to f.tag f.content.now)) in
    search rules

pub loop-field-preserved : goal.loop-field-preserved
loop-field-preserved c =
    goes_on c.loop-field.invariant c.in-Ok-Some.field (rw c.in-Ok-Some.field-0-is at c.in-Ok-Some.ensures) c.requires.1 c.put_converted-n.ensures

pub returns-in_default : goal.returns-in_default
returns-in_default c =
    let none : ◌≡◌ {A = Option Field} c.in_default.field-0 None = cc in
    ends c.loop-field.invariant (rw (c.in_default.is, none) at c.read_field.ensures)
