-- `weighing::with_way` meets its contract: one line after the other.
-- Assumes nothing.
use Prim.Native.Nat.{ℕ}
use Rattle.std.specs.Prelude.{Some}
use mathlib.Core.Path.{subst, sym}
use Rattle.demands.proofs.NeedLaws.{sharp-same}
use Rattle.demands.proofs.WeightLaws.{Weighed, weigh-more}
use Rattle.demands.proofs.weighing.with_way.Goals as goal
use Rattle.demands.proofs.weighing.with_way.Goals.{then-here-askers-ne0+in_ok-best, else-here-askers-ne0}

pub loop-j-init : goal.loop-j-init
loop-j-init c = λ _ _. sharp-same _ _

pub returns-in_err-best : goal.returns-in_err-best
returns-in_err-best c =
    let t = c.args.tables.now in
    rw c.from_residual.ensures (weigh-more t.targets t.lows t.highs t.lines c.args.q.now c.args.s _ _ _ _ c.loop-j.invariant c.weigh-short.ensures c.in_err-best.ensures)

pub loop-j-preserved : goal.loop-j-preserved
loop-j-preserved c =
    let a = c.args in
    let t = a.tables.now in
    let Sharp : ℕ → Type 0 = λ v. Weighed t.targets t.lows t.highs t.lines a.q.now a.s (Some a.best) (Some v) in
    elim c.if-here-askers-ne0.branch [
      | then-here-askers-ne0+in_ok-best w ↦ subst Sharp (sym w.best-is)
          (weigh-more t.targets t.lows t.highs t.lines a.q.now a.s _ _ _ _ c.loop-j.invariant w.weigh-short.ensures w.in_ok-best.ensures)
      | else-here-askers-ne0 w ↦ subst Sharp (sym w.best-is) c.loop-j.invariant
    ]

pub returns : goal.returns
returns c = c.loop-j.invariant
