-- `rows::with_first_row` meets its contract.
-- Assumes nothing.
use Rattle.std.specs.Prelude.{Some}
use native.Mathlib.Omega.{arith}
use Rattle.demands.proofs.RowLaws.{own-sharp}
use Rattle.demands.proofs.rows.with_first_row.Goals as goal

pub returns : goal.returns
returns c =
    let a = c.args in
    own-sharp a.tables.now.targets a.tables.now.lows a.tables.now.highs a.shut.now a.s 0 a.row.slot c.row-x.result c.from.result c.requires.0 c.requires.1 c.row-x.ensures.0 (omega (arith, c.from.ensures)) (Some a.best) c.with_limits.result a.row.low a.row.high c.max.result c.min.result c.max.ensures c.min.ensures c.with_limits.ensures
