use Prim.Native.Nat.{◌+◌, ◌≤◌}
use Rattle.diagrams.specs.View.{association_in}
use Rattle.compiling.specs.Table.{entries_for}
use Rattle.entries.specs.View.{Appends}
use Rattle.compiling.proofs.TableLaws.{asked_to}
use Rattle.compiling.proofs.push_row.Given as goal

abbrev pub invariant-loop-kind : goal.invariant-loop-kind
invariant-loop-kind l = (l.r.number ≤ l.initial.r.number + l.kind-index) × Appends l.initial.r l.r (entries_for l.i (association_in l.a l.i) (asked_to l.arrow l.kind-index))
