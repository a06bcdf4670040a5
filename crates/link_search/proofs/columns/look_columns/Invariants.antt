-- Each column and target that was passed is within its limits, or a bit was found.
use Prim.Native.Nat.{ℕ, ◌<◌}
use Rattle.link_search.specs.Nets.{net_of}
use Rattle.link_search.specs.Families.{ColumnFits, ColumnKept, column_in}
use Rattle.link_search.proofs.SeenLaws.{Seen}
use Rattle.link_search.proofs.columns.look_columns.Given as goal

abbrev pub invariant-loop-column : goal.invariant-loop-column
invariant-loop-column l = Seen ((j : ℕ) → j < l.column-index → ColumnKept (column_in l.columns j) (net_of l.bounds.must)) l.bounds.may l.best

abbrev pub invariant-loop-target : goal.invariant-loop-target
invariant-loop-target l =
    Seen
    (((j : ℕ) → j < l.column-index → ColumnKept (column_in l.columns j) (net_of l.bounds.must)) × ((p : ℕ) → p < l.target → ColumnFits (column_in l.columns l.column-index) (net_of l.bounds.must) p))
    l.bounds.may l.best
