use native.Mathlib.Omega.{arith}
use mathlib.Core.Path.{ap}
use lib.ListN.{length}
use Rattle.files.specs.Field.{field}
use Rattle.field_writers.proofs.PutLaws.{put_as}
use Rattle.converting.proofs.PartLaws.{association-field, edition-field, other-content}
use Rattle.converting.proofs.put_converted.Goals as goal

pub put_field-requires : goal.put_field-requires
put_field-requires c =
    let a = c.args in
    let room = c.requires.1 in
    (c.requires.0.short, omega (arith, ap length (other-content a.from a.to a.c.now a.tag (λ h. omega arith) (λ h. omega arith))))

pub returns-in-16 : goal.returns-in-16
returns-in-16 c = put_as c.put_head.ensures _ (edition-field c.args.from c.args.to c.args.c.now c.args.tag c.in-16.is)

pub returns-in-80 : goal.returns-in-80
returns-in-80 c = put_as c.put_association.ensures.1 _ (association-field c.args.from c.args.to c.args.c.now c.args.tag c.in-80.is)

pub returns-in_default : goal.returns-in_default
returns-in_default c =
    let a = c.args in
    put_as c.put_field.ensures.1 _ (ap (field a.tag) (other-content a.from a.to a.c.now a.tag (λ h. omega arith) (λ h. omega arith)))
