-- `columns::with_columns` meets its contract: one column after the other.
-- Assumes nothing.
use Rattle.std.specs.Prelude.{Some, ℕ}
use mathlib.Core.Path.{subst, sym}
use Rattle.worlds.specs.Kept.{ColumnsKept}
use Rattle.demands.specs.Wishes.{Sharpens}
use Rattle.clashes.specs.Sources.{SourcesKept}
use Rattle.demands.proofs.NeedLaws.{sharp-same, sharp-trans}
use Rattle.demands.proofs.ColumnLaws.{columns-sharp}
use Rattle.demands.proofs.columns.with_columns.Goals as goal
use Rattle.demands.proofs.columns.with_columns.Goals.{then-column-gt0+in_ok-best, else-column-gt0}

pub loop-j-init : goal.loop-j-init
loop-j-init c = sharp-same _ _

pub returns-in_err-best : goal.returns-in_err-best
returns-in_err-best c =
    let a = c.args in
    rw c.from_residual.ensures (sharp-trans _ _ _ _ c.loop-j.invariant (columns-sharp a.s a.tables.now.sources _ _ a.tables.now.lines c.loop-j.j c.loop-j-test.true c.in_err-best.ensures))

pub loop-j-preserved : goal.loop-j-preserved
loop-j-preserved c =
    let a = c.args in
    let Sharp : ℕ → Type 0 = λ v. Sharpens (λ w. SourcesKept a.tables.now.sources w × ColumnsKept a.tables.now.lines w) a.s (Some a.best) (Some v) in
    elim c.if-column-gt0.branch [
      | then-column-gt0+in_ok-best w ↦ subst Sharp (sym w.best-is) (sharp-trans _ _ _ _ c.loop-j.invariant
          (columns-sharp a.s a.tables.now.sources _ _ a.tables.now.lines c.loop-j.j c.loop-j-test.true w.in_ok-best.ensures))
      | else-column-gt0 w ↦ subst Sharp (sym w.best-is) c.loop-j.invariant
    ]

pub returns : goal.returns
returns c = c.loop-j.invariant
