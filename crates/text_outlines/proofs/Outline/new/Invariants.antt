use Rattle.std.proofs.Common.{length}
use Rattle.text_outlines.proofs.OutlinedLaws.{OutlinedTo}
use Rattle.text_outlines.proofs.Outline.new.Given as goal

abbrev pub invariant-loop-after : goal.invariant-loop-after
invariant-loop-after l = OutlinedTo l.body l.row.rest.now l.declarations l.count l.forbidden

abbrev pub decreases-loop-after : goal.decreases-loop-after
decreases-loop-after l = length l.row.rest.now
