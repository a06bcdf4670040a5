-- `singles::with_singles` meets its contract: one type after the other.
-- Assumes nothing.
use Rattle.std.specs.Prelude.{Some, ℕ}
use mathlib.Core.Path.{◌∙◌, subst, sym}
use Rattle.worlds.specs.Kept.{SinglesKept}
use Rattle.demands.specs.Wishes.{Sharpens}
use Rattle.demands.proofs.NeedLaws.{sharp-same, sharp-trans}
use Rattle.demands.proofs.SingleLaws.{missing-single, single-sharp}
use Rattle.demands.proofs.singles.with_singles.Goals as goal
use Rattle.demands.proofs.singles.with_singles.Goals.{then-has+in_ok-best, else-has}

pub returns-then-missing-eq0 : goal.returns-then-missing-eq0
returns-then-missing-eq0 c = sharp-same _ _

pub loop-t-init : goal.loop-t-init
loop-t-init c = sharp-same _ _

pub returns-in_err-best : goal.returns-in_err-best
returns-in_err-best c =
    let a = c.args in
    let e = missing-single a.s.types.at a.s.k a.singles a.here c.minus-missing.result c.loop-t.t c.requires c.minus-missing.ensures (sym c.has.ensures ∙ c.if-has.true) in
    rw c.from_residual.ensures (sharp-trans _ _ _ _ c.loop-t.invariant (single-sharp a.s a.singles c.loop-t.t c.loop-t-test.true e.0 e.1 _ _ c.with.result c.with.ensures c.in_err-best.ensures))

pub loop-t-preserved : goal.loop-t-preserved
loop-t-preserved c =
    let a = c.args in
    let Sharp : ℕ → Type 0 = λ v. Sharpens (SinglesKept a.singles) a.s (Some a.best) (Some v) in
    elim c.if-has.branch [
      | then-has+in_ok-best w ↦ let e = missing-single a.s.types.at a.s.k a.singles a.here c.minus-missing.result c.loop-t.t c.requires c.minus-missing.ensures (sym c.has.ensures ∙ w.if-has.true) in
          subst Sharp (sym w.best-is) (sharp-trans _ _ _ _ c.loop-t.invariant (single-sharp a.s a.singles c.loop-t.t c.loop-t-test.true e.0 e.1 _ _ w.with.result w.with.ensures w.in_ok-best.ensures))
      | else-has w ↦ subst Sharp (sym w.best-is) c.loop-t.invariant
    ]

pub returns : goal.returns
returns c = c.loop-t.invariant
