use mathlib.Core.Path.{◌≡◌}
use Rattle.texts.specs.Declared.{types_before}
use Rattle.text_rows.specs.RowAt.{declarations_by}
use Rattle.text_writing.specs.Pieces.{attributes_piece}
use Rattle.text_writing.proofs.PuttingLaws.{Putting}
use Rattle.text_writing.proofs.Named.put_attributes.Given as goal

abbrev pub invariant-loop-k : goal.invariant-loop-k
invariant-loop-k l = Putting (attributes_piece (declarations_by l.self.outline.now.body.now)) l.self.outline.now.count l.initial.out l.out l.at l.k × (l.own ≡ types_before (declarations_by l.self.outline.now.body.now) l.k)
