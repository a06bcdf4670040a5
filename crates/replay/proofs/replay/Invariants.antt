use lib.ListN.{length}
use Rattle.replay.proofs.GoingLaws.{Going}
use Rattle.replay.proofs.replay.Given as goal

abbrev pub invariant-loop-t : goal.invariant-loop-t
invariant-loop-t l = Going l.calls l.initial.replies l.replies l.b l.rest l.at

abbrev pub decreases-loop-t : goal.decreases-loop-t
decreases-loop-t l = length l.rest
