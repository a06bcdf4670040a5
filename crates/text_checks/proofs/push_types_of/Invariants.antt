use Rattle.text_rows.specs.RowAt.{declaration_by}
use Rattle.text_checks.proofs.TakenLaws.{Taken}
use Rattle.text_checks.proofs.push_types_of.Given as goal

abbrev pub invariant-loop-i : goal.invariant-loop-i
invariant-loop-i l = Taken (declaration_by l.s).attribute_types l.count l.initial.names l.i l.names
