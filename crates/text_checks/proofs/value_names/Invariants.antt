use Rattle.std.proofs.Common.{◌≡◌, ◌≤◌, take}
use Rattle.name_lists.specs.Names.{names_in}
use Rattle.text_checks.proofs.TakenLaws.{values_to}
use Rattle.text_checks.proofs.value_names.Given as goal

abbrev pub invariant-loop-k : goal.invariant-loop-k
invariant-loop-k l = (l.names.count ≤ 13) × (names_in l.names ≡ take 13 (values_to l.o.outline.now.body.now l.k))
