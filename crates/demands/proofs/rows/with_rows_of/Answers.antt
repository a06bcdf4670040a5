-- `rows::with_rows_of` meets its contract: one slot after the other.
-- Assumes nothing.
use Rattle.std.specs.Prelude.{Some, ℕ}
use Rattle.demands.proofs.NeedLaws.{sharp-same, sharp-trans}
use Rattle.demands.proofs.RowLaws.{row-sharp}
use mathlib.Core.Path.{subst, sym}
use Rattle.demands.specs.Wishes.{Sharpens}
use Rattle.demands.specs.Families.{RowsOpen}
use Rattle.demands.proofs.rows.with_rows_of.Goals as goal
use Rattle.demands.proofs.rows.with_rows_of.Goals.{then-low-gt0+in_ok-best, else-low-gt0}

pub loop-i-init : goal.loop-i-init
loop-i-init c = sharp-same _ _

pub returns-in_err-best : goal.returns-in_err-best
returns-in_err-best c =
    let a = c.args in
    rw c.from_residual.ensures (sharp-trans _ _ _ _ c.loop-i.invariant
    (row-sharp a.tables.now.targets a.tables.now.lows a.tables.now.highs a.shut.now a.s a.o c.loop-i.i c.row-x.result c.place.result c.requires c.loop-i-test.true c.row-x.ensures.0
    c.place.ensures _ _ c.in_err-best.ensures))

pub loop-i-preserved : goal.loop-i-preserved
loop-i-preserved c =
    let a = c.args in
    let Sharp : ℕ → Type 0 = λ v. Sharpens (RowsOpen a.tables.now.targets a.tables.now.lows a.tables.now.highs a.shut.now) a.s (Some a.best) (Some v) in
    elim c.if-low-gt0.branch [
      | then-low-gt0+in_ok-best w ↦ subst Sharp (sym w.best-is) (sharp-trans _ _ _ _ c.loop-i.invariant
          (row-sharp a.tables.now.targets a.tables.now.lows a.tables.now.highs a.shut.now a.s a.o c.loop-i.i c.row-x.result w.place.result c.requires c.loop-i-test.true c.row-x.ensures.0
          w.place.ensures _ _ w.in_ok-best.ensures))
      | else-low-gt0 w ↦ subst Sharp (sym w.best-is) c.loop-i.invariant
    ]

pub returns : goal.returns
returns c = c.loop-i.invariant
