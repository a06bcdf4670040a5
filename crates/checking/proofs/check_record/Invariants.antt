use Rattle.checking.proofs.ReadingLaws.{Reading}
use lib.ListN.{length}
use Rattle.checking.proofs.check_record.Given as goal

abbrev pub invariant-loop-field : goal.invariant-loop-field
invariant-loop-field l = Reading l.file l.s l.rest

abbrev pub decreases-loop-field : goal.decreases-loop-field
decreases-loop-field l = length l.rest
