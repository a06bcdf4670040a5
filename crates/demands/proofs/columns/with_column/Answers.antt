-- `columns::with_column` meets its contract: one object after the other.
-- Assumes nothing.
use Rattle.std.specs.Prelude.{Some}
use Prim.Native.Nat.{ℕ}
use mathlib.Core.Path.{◌∙◌, ap, subst, sym}
use Rattle.laws.specs.Bits.{bit}
use Rattle.demands.specs.Wishes.{Sharpens}
use Rattle.clashes.specs.Sources.{SourcesKept}
use Rattle.demands.specs.Families.{SourcesWithin}
use Rattle.demands.proofs.NeedLaws.{sharp-same, sharp-trans}
use Rattle.demands.proofs.ColumnLaws.{column-sharp}
use Rattle.demands.proofs.columns.with_column.Goals as goal
use Rattle.demands.proofs.columns.with_column.Goals.{then-has+in_ok-best, else-has}

pub loop-p-init : goal.loop-p-init
loop-p-init c = sharp-same _ _

pub returns-in_err-best : goal.returns-in_err-best
returns-in_err-best c =
    let a = c.args in
    rw c.from_residual.ensures (sharp-trans _ _ _ _ c.loop-p.invariant
    (column-sharp a.s a.tables.now.sources _ _ a.asked.slot a.asked.from a.to a.asked.least a.asked.most c.loop-p.p c.loop-p-test.true
    (ap (λ (y : ℕ). bit y a.to) (sym c.of.ensures.0) ∙ sym c.has.ensures ∙ c.if-has.true) c.in_err-best.ensures))

pub loop-p-preserved : goal.loop-p-preserved
loop-p-preserved c =
    let a = c.args in
    let Sharp : ℕ → Type 0 = λ v. Sharpens (λ w. SourcesKept a.tables.now.sources w × SourcesWithin a.asked.slot a.asked.from a.to a.asked.least a.asked.most w) a.s (Some a.best) (Some v) in
    elim c.if-has.branch [
      | then-has+in_ok-best w ↦ subst Sharp (sym w.best-is) (sharp-trans _ _ _ _ c.loop-p.invariant
          (column-sharp a.s a.tables.now.sources _ _ a.asked.slot a.asked.from a.to a.asked.least a.asked.most c.loop-p.p c.loop-p-test.true
          (ap (λ (y : ℕ). bit y a.to) (sym c.of.ensures.0) ∙ sym c.has.ensures ∙ w.if-has.true) w.in_ok-best.ensures))
      | else-has w ↦ subst Sharp (sym w.best-is) c.loop-p.invariant
    ]

pub returns : goal.returns
returns c = c.loop-p.invariant
