use Rattle.text_rows.specs.RowAt.{declarations_by}
use Rattle.text_writing.specs.Pieces.{enumeration_piece}
use Rattle.text_writing.proofs.PuttingLaws.{Putting}
use Rattle.text_writing.proofs.Named.put_enumerations.Given as goal

abbrev pub invariant-loop-k : goal.invariant-loop-k
invariant-loop-k l = Putting (enumeration_piece (declarations_by l.self.outline.now.body.now)) l.self.outline.now.count l.initial.out l.out l.at l.k
