-- `own::with_own` meets its contract.
-- Assumes nothing.
use native.Mathlib.Omega.{arith}
use Rattle.demands.proofs.NeedLaws.{sharp-from}
use Rattle.demands.proofs.OwnLaws.{own-sharp}
use Rattle.demands.proofs.own.with_own.Goals as goal

pub returns-in_err-row : goal.returns-in_err-row
returns-in_err-row c =
    let a = c.args in
    rw c.from_residual.ensures
    (sharp-from _ _ _ (λ w _ h. (h.0, h.2.row (let z = c.if-q-eq0.false in omega arith))) c.in_err-row.ensures)

pub returns : goal.returns
returns c =
    let a = c.args in
    own-sharp a.tables.now.targets a.tables.now.sources a.tables.now.lows a.tables.now.highs a.q.now a.s _ _ _ (let z = c.if-q-eq0.false in omega arith) c.in_ok-row.ensures c.with_sources.ensures
