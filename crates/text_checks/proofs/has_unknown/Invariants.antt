use Rattle.std.proofs.Common.{◌≡◌, false}
use Rattle.laws.specs.Bounded.{any}
use Rattle.text_rows.specs.RowAt.{declarations_by}
use Rattle.text_outlines.proofs.WalkLaws.{Walk}
use Rattle.text_checks.proofs.UnknownLaws.{unknown}
use Rattle.text_checks.proofs.has_unknown.Given as goal

abbrev pub invariant-loop-k : goal.invariant-loop-k
invariant-loop-k l = Walk l.o.body.now l.rest l.k × (any (unknown (declarations_by l.o.body.now)) l.k ≡ false)
