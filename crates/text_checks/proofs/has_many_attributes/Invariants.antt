use Rattle.std.proofs.Common.{◌≡◌, ◌≤◌, length}
use Rattle.laws.specs.Lists.{joined}
use Rattle.text_checks.proofs.CountedLaws.{types_at}
use Rattle.text_checks.proofs.has_many_attributes.Given as goal

abbrev pub invariant-loop-k : goal.invariant-loop-k
invariant-loop-k l = (l.used ≤ 32) × (l.used ≡ length (joined (types_at l.o.outline.now.body.now) l.k))
