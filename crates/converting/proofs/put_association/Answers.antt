use Prim.Native.Nat.{◌+◌}
use native.Mathlib.Omega.{arith}
use Rattle.field_writers.proofs.PutLaws.{put-before, put_as}
use Rattle.converting.proofs.PartLaws.{association-parts}
use Rattle.converting.proofs.put_association.Goals as goal

pub returns : goal.returns
returns c =
    let a = c.args in
    let n = c.put_ends-n in
    let f = c.put_form in
    let room = c.requires.0 in (
      omega (arith, n.ensures.0, f.ensures.0),
      put_as (put-before n.ensures.1 f.ensures.1 f.ensures.0 (omega (arith, n.ensures.0))) _
          (association-parts a.from a.to a.c.now c.byte-form.result c.byte.result (2 + n.result) c.byte-form.ensures c.byte.ensures (omega (arith, n.ensures.1.length-is))),
    )
