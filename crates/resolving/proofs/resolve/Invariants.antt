use lib.ListN.{length}
use Rattle.diagrams.specs.View.{diagram_of}
use Rattle.resolving.proofs.ReadLaws.{Reads}
use Rattle.resolving.proofs.resolve.Given as goal

abbrev pub invariant-loop-field : goal.invariant-loop-field
invariant-loop-field l = Reads (diagram_of l.d.stored) l.file l.m l.rest

abbrev pub decreases-loop-field : goal.decreases-loop-field
decreases-loop-field l = length l.rest
