use Prim.Native.Nat.{◌<◌, ℕ}
use Rattle.aims.specs.Rows.{RowKept}
use Rattle.queries.proofs.BreakLaws.{Throughout}
use Rattle.worlds.specs.Kept.{sheet_of}
use Rattle.aims.proofs.search.Search.find_rows.Given as goal

abbrev pub invariant-loop-i : goal.invariant-loop-i
invariant-loop-i l = (k : ℕ) → k < l.i → Throughout (sheet_of l.self.tables.now) (RowKept l.others.targets l.others.lows l.others.highs k) l.self.n
