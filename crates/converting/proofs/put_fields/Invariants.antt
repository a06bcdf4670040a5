use lib.ListN.{length}
use Rattle.files.specs.EditionFields.{rows_in}
use Rattle.files.specs.Field.{bytes_of, rows}
use Rattle.converting.proofs.LoopLaws.{Going}
use Rattle.converting.proofs.put_fields.Given as goal

abbrev pub invariant-loop-field : goal.invariant-loop-field
invariant-loop-field l = Going l.from l.to (bytes_of (rows_in l.from l.to (rows l.file))) l.initial.out l.out l.rest l.at

abbrev pub decreases-loop-field : goal.decreases-loop-field
decreases-loop-field l = length l.rest
