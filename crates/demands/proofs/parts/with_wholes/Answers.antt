-- `parts::with_wholes` meets its contract: one object after the other.
-- Assumes nothing.
use Rattle.demands.proofs.NeedLaws.{sharp-same, sharp-trans}
use Rattle.demands.proofs.parts.with_wholes.Goals as goal

pub loop-p-init : goal.loop-p-init
loop-p-init c = sharp-same _ _

pub returns-in_err-best : goal.returns-in_err-best
returns-in_err-best c =
    rw c.from_residual.ensures (sharp-trans _ _ _ _ c.loop-p.invariant c.in_err-best.ensures)

pub loop-p-preserved : goal.loop-p-preserved
loop-p-preserved c = sharp-trans _ _ _ _ c.loop-p.invariant c.in_ok-best.ensures

pub returns : goal.returns
returns c = c.loop-p.invariant
