use native.Mathlib.Omega.{arith}
use mathlib.Core.List.{◌++◌}
use mathlib.Core.Path.{◌≡◌, ap₂}
use lib.ListN.{length, length-drop, length-take}
use Rattle.files.specs.Diagram.{End}
use Rattle.files.specs.DiagramBytes.{end_bytes}
use Rattle.field_writers.proofs.PutLaws.{put-long, put_as, put_next}
use Rattle.converting.proofs.PartLaws.{end-fits, left-is, left_laid, right-is, right-laid}
use Rattle.converting.proofs.put_ends.Goals as goal

pub put_end-n-requires : goal.put_end-n-requires
put_end-n-requires c =
    let a = c.args in
    let p = c.past-left.ensures in
    (omega (arith, c.requires.0), (left_laid a.from a.to a.c.now c.requires.1.0 p, end-fits a.from a.to a.c.now (left-is a.from a.to a.c.now p) c.requires.1.1.0))

pub put_end-requires : goal.put_end-requires
put_end-requires c =
    let a = c.args in
    let p = c.past-left.ensures in
    let q = c.past_end-right.ensures in
    let n = c.put_end-n in
    let room = c.requires.0 in
    let long : length n.new.out ≡ length a.out.now = put-long n.ensures.1 (omega (arith, n.ensures.0)) in (
      simp (length-take, length-drop) (omega (arith, n.ensures.0)),
      (right-laid a.from a.to a.c.now c.requires.1.0 p q, end-fits a.from a.to a.c.now (right-is a.from a.to a.c.now p q) c.requires.1.1.1),
    )

pub returns : goal.returns
returns c =
    let a = c.args in
    let p = c.past-left.ensures in
    let q = c.past_end-right.ensures in
    let n = c.put_end-n in
    let m = c.put_end in
    let room = c.requires.0 in (
      omega (arith, n.ensures.0, m.ensures.0),
      put_as (put_next n.ensures.1 m.ensures.1 (omega (arith, n.ensures.0, m.ensures.0))) _
          (ap₂ (λ (x y : End). end_bytes a.to x ++ end_bytes a.to y) (left-is a.from a.to a.c.now p) (right-is a.from a.to a.c.now p q)),
    )
