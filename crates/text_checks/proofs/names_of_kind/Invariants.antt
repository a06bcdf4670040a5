use Rattle.std.proofs.Common.{◌≡◌, ◌≤◌}
use Rattle.name_lists.specs.Names.{names_in}
use Rattle.text_checks.proofs.CollectedLaws.{names_to}
use Rattle.text_checks.proofs.names_of_kind.Given as goal

abbrev pub invariant-loop-k : goal.invariant-loop-k
invariant-loop-k l = (l.names.count ≤ l.most) × (names_in l.names ≡ names_to l.kind l.o.outline.now.body.now l.k)
