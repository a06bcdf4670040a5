use Rattle.std.proofs.Common.{length}
use Rattle.text_rows.proofs.ScanLaws.{Walks}
use Rattle.text_rows.proofs.scan_row.Given as goal

abbrev pub invariant-loop-token : goal.invariant-loop-token
invariant-loop-token l = Walks l.s l.rest l.state.0 l.states

abbrev pub decreases-loop-token : goal.decreases-loop-token
decreases-loop-token l = length l.rest
