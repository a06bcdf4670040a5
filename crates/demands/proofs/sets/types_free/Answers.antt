-- `sets::types_free` meets its contract.
-- Assumes nothing.
use Rattle.demands.proofs.SetLaws.{bit-free}
use Rattle.demands.proofs.sets.types_free.Goals as goal

pub returns : goal.returns
returns c =
    let a = c.args in
    λ types k f. bit-free a.usable a.singles a.forb a.here c.minus.result c.minus-2.result types k f c.minus.ensures c.minus-2.ensures
