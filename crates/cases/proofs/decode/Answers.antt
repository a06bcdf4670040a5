use lib.ListN.{length-set}
use borrow.Author.Rules.{rules}
use Rattle.cases.proofs.decode.Goals as goal

pub loop-i-preserved : goal.loop-i-preserved
loop-i-preserved c = simp length-set (search rules)

pub shape_of-out : goal.shape_of-out
shape_of-out c = c.loop-i.invariant.1
