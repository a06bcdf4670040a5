use Rattle.weights.proofs.NumberLaws.{mask-more}
use Rattle.weights.proofs.joined.Goals as goal

pub loop-whole-preserved : goal.loop-whole-preserved
loop-whole-preserved c = let l = c.loop-whole in mask-more c.args.wholes.now l.whole-index l.to l.invariant
