-- `first::is_bad_first_row` meets its contract.
-- Assumes nothing.
use Prim.Native.Nat.{◌<◌}
use native.Mathlib.Omega.{arith}
use borrow.Author.Tests.{ltb-true}
use Rattle.clashes.proofs.FirstLaws.{first-row-refuted}
use Rattle.clashes.proofs.first.is_bad_first_row.Goals as goal

pub returns : goal.returns
returns c =
    let a = c.args in
    let p = c.row-x.result in
    λ e targets seeds some. first-row-refuted targets a.tables.now.lows a.tables.now.highs a.types.now.at a.row.slot a.row.low a.row.high p seeds c.requires
    (omega (arith, c.row-x.ensures.0))
    (let h : c.min.result < c.max.result = ltb-true c.min.result c.max.result e in omega (arith, c.min.ensures, c.max.ensures)) some
