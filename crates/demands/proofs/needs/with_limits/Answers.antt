-- `needs::with_limits` meets its contract.
-- Assumes nothing.
use Rattle.std.specs.Prelude.{None, Some}
use Rattle.demands.proofs.NeedLaws.{limits-cross, limits-need}
use Rattle.demands.proofs.needs.with_limits.Goals as goal

pub returns-then-high-low : goal.returns-then-high-low
returns-then-high-low c =
    let a = c.args in
    limits-cross a.s a.low a.high a.mask a.shut (Some a.best) None c.if-high-low.true

pub returns : goal.returns
returns c =
    let a = c.args in
    limits-need a.s a.low a.high a.mask a.shut (Some a.best) c.with_need.result c.count_candidates-n.result c.count_candidates-n.ensures c.with_need.ensures
