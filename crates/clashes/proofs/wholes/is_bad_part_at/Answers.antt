use Prim.Native.Nat.{◌<◌}
use native.Mathlib.Omega.{arith}
use borrow.Author.Tests.{ltb-true}
use Rattle.clashes.proofs.PartLaws.{part-refuted}
use Rattle.clashes.proofs.wholes.is_bad_part_at.Goals as goal

pub returns : goal.returns
returns c =
    let a = c.args in
    λ t. part-refuted a.tables.now.lines a.tables.now.slotted a.q.now.must a.q.now.shut a.types.now.at a.q.now.seeds a.p c.requires.0 c.requires.1
    (let e : 1 < c.count_wholes.result = ltb-true _ _ t in omega (arith, c.count_wholes.ensures))
