-- `rows::with_rows` meets its contract: one object after the other.
-- Assumes nothing.
use Rattle.demands.proofs.NeedLaws.{sharp-same, sharp-trans}
use Rattle.demands.proofs.rows.with_rows.Goals as goal

pub loop-o-init : goal.loop-o-init
loop-o-init c = sharp-same _ _

pub returns-in_err-best : goal.returns-in_err-best
returns-in_err-best c =
    rw c.from_residual.ensures (sharp-trans _ _ _ _ c.loop-o.invariant c.in_err-best.ensures)

pub loop-o-preserved : goal.loop-o-preserved
loop-o-preserved c = sharp-trans _ _ _ _ c.loop-o.invariant c.in_ok-best.ensures

pub returns : goal.returns
returns c = c.loop-o.invariant
