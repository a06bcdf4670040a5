use Prim.Native.Nat.{◌≤◌}
use native.Mathlib.Omega.{arith}
use mathlib.Core.Path.{◌≡◌}
use lib.ListN.{length, length-drop, length-take}
use Rattle.field_writers.proofs.PutLaws.{put-long, put_as, put_next}
use Rattle.loading.proofs.AssociationLaws.{role-short}
use Rattle.converting.proofs.PartLaws.{end-parts, limits-most, low-below, up-below}
use Rattle.converting.proofs.put_end.Goals as goal

pub put_limits-n-requires : goal.put_limits-n-requires
put_limits-n-requires c =
    let a = c.args in
    let f = c.requires.1.1 in
    (omega (arith, c.requires.0), (low-below a.from a.to a.c.now f c.low_of-low.ensures.0, up-below a.from a.to a.c.now f c.up_of.ensures.0 c.other_upper-up.ensures))

pub put_name-requires : goal.put_name-requires
put_name-requires c =
    let a = c.args in
    let k = c.put_limits-n in
    let most = limits-most a.to in
    let room = c.requires.0 in
    let long : length k.new.out ≡ length a.out.now = put-long k.ensures.1 (omega (arith, k.ensures.0)) in (
      role-short a.from a.c.now c.requires.1.0 c.role_of.ensures c.name_in-role.ensures,
      simp (length-take, length-drop) (omega (arith, k.ensures.0)),
    )

pub returns : goal.returns
returns c =
    let a = c.args in
    let k = c.put_limits-n in
    let n = c.put_name in
    let most = limits-most a.to in
    let room = c.requires.0 in
    let short : length c.name_in-role.result.now ≤ 16 = role-short a.from a.c.now c.requires.1.0 c.role_of.ensures c.name_in-role.ensures in (
      omega (arith, k.ensures.0, n.ensures.0),
      put_as (put_next k.ensures.1 n.ensures.1 (omega (arith, k.ensures.0, n.ensures.0))) _
          (end-parts a.from a.to a.c.now c.byte.ensures c.low_of-low.ensures.0 c.up_of.ensures.0 c.other_upper-up.ensures c.role_of.ensures c.name_in-role.ensures),
    )
