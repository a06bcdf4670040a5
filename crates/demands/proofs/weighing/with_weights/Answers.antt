-- `weighing::with_weights` meets its contract: one way of counting after the other.
-- Assumes nothing.
use Rattle.demands.proofs.NeedLaws.{sharp-trans}
use Rattle.demands.proofs.WeightLaws.{weigh-more}
use Rattle.demands.proofs.weighing.with_weights.Goals as goal

pub returns-in_err-rows : goal.returns-in_err-rows
returns-in_err-rows c =
    rw c.from_residual.ensures (c.in_err-rows.ensures)

pub returns-in_err-columns : goal.returns-in_err-columns
returns-in_err-columns c =
    rw c.from_residual-in_err-columns.ensures (λ u n. sharp-trans _ _ _ _ (c.in_ok-rows.ensures u n) (c.in_err-columns.ensures u n))

pub returns-in_err-there : goal.returns-in_err-there
returns-in_err-there c =
    rw c.from_residual-in_err-there.ensures (λ u n. sharp-trans _ _ _ _ (sharp-trans _ _ _ _ (c.in_ok-rows.ensures u n) (c.in_ok-columns.ensures u n)) (c.in_err-there.ensures u n))

pub returns-in_err-back : goal.returns-in_err-back
returns-in_err-back c =
    rw c.from_residual-in_err-back.ensures (λ u n. sharp-trans _ _ _ _ (sharp-trans _ _ _ _ (sharp-trans _ _ _ _ (c.in_ok-rows.ensures u n) (c.in_ok-columns.ensures u n)) (c.in_ok-there.ensures u n)) (c.in_err-back.ensures u n))

pub returns : goal.returns
returns c =
    let t = c.args.tables.now in
    weigh-more t.targets t.lows t.highs t.lines c.args.q.now c.args.s _ _ _ _
    (λ u n. sharp-trans _ _ _ _ (sharp-trans _ _ _ _ (sharp-trans _ _ _ _ (c.in_ok-rows.ensures u n) (c.in_ok-columns.ensures u n)) (c.in_ok-there.ensures u n)) (c.in_ok-back.ensures u n))
    c.weigh-short.ensures c.with_shortage.ensures
