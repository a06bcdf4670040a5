-- Each row that was passed is within its limits, or a bit was found.
use Prim.Native.Nat.{ℕ, ◌<◌}
use Rattle.link_search.proofs.SeenLaws.{Seen, RowFine}
use Rattle.link_search.proofs.rows.look_rows.Given as goal

abbrev pub invariant-loop-row : goal.invariant-loop-row
invariant-loop-row l = Seen ((i : ℕ) → i < l.row → RowFine l.rows l.bounds.must i) l.bounds.may l.best
