use Rattle.name_lists.specs.Names.{names_in}
use Rattle.text_writing.specs.Pieces.{plain_piece}
use Rattle.text_writing.proofs.PuttingLaws.{Putting}
use Rattle.text_writing.proofs.put_plain_types.Given as goal

abbrev pub invariant-loop-i : goal.invariant-loop-i
invariant-loop-i l = Putting (plain_piece (names_in l.values) l.e) l.end l.initial.out l.out l.at l.i
