use Rattle.std.proofs.Common.{◌≡◌, ◌≤◌, length}
use Rattle.texts.specs.Token.{tokens}
use Rattle.text_rows.proofs.RowLaws.{accepted}
use Rattle.text_rows.proofs.is_accepted.Given as goal

abbrev pub invariant-loop-token : goal.invariant-loop-token
invariant-loop-token l = (l.q.0 ≤ 46) × (accepted 0 (tokens l.text) ≡ accepted l.q.0 (tokens l.rest))

abbrev pub decreases-loop-token : goal.decreases-loop-token
decreases-loop-token l = length l.rest
