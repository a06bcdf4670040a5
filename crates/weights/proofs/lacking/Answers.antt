use Rattle.weights.proofs.LackLaws.{lacks-by}
use Rattle.weights.proofs.lacking.Goals as goal

pub returns : goal.returns
returns c = lacks-by _ _ _ _ _ _ _ _ c.gains-gain.result _ _ c.times.result c.requires.0 c.total-m.ensures.0 c.total-n.ensures.0 c.gains-gain.ensures c.times.ensures.0 c.times.ensures.1
