use Rattle.std.proofs.Common.{length}
use Rattle.text_rows.proofs.EndLaws.{Behind, Continues}
use Rattle.text_rows.proofs.row_end.Given as goal

abbrev pub invariant-loop-token : goal.invariant-loop-token
invariant-loop-token l = Behind l.s l.rest × Continues l.fn.q.number l.s l.state.number l.rest

abbrev pub decreases-loop-token : goal.decreases-loop-token
decreases-loop-token l = length l.rest
