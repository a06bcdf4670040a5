use Rattle.std.proofs.Common.{◌≡◌, false}
use Rattle.laws.specs.Bounded.{any}
use Rattle.text_rows.specs.RowAt.{declarations_by}
use Rattle.text_outlines.proofs.WalkLaws.{Walk}
use Rattle.text_checks.proofs.LookedLaws.{declared_at}
use Rattle.text_checks.proofs.is_declared_in_rows.Given as goal

abbrev pub invariant-loop-j : goal.invariant-loop-j
invariant-loop-j l = Walk l.body l.rest l.j × (any (declared_at l.kind (declarations_by l.body) l.w) l.j ≡ false)
