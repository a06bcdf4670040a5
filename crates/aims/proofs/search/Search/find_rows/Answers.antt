-- `find_rows` meets its contract: row by row, and rows that ask for nothing more are kept.
-- Assumes nothing.
use Prim.Native.Nat.{ℕ}
use Rattle.aims.proofs.RowLaws.{row_at, rows_of}
use Rattle.aims.specs.Rows.{RowKept}
use Rattle.queries.proofs.BreakLaws.{Throughout, breaks-hit, breaks-none}
use Rattle.worlds.specs.Kept.{sheet_of}
use borrow.Author.Count.{below_more}
use mathlib.Core.Path.{refl}
use native.Mathlib.Omega.{arith}
use Rattle.aims.proofs.search.Search.find_rows.Goals.{else-is_new_row, then-is_new_row+in_default}
use Rattle.aims.proofs.search.Search.find_rows.Goals as goal

pub loop-i-init : goal.loop-i-init
loop-i-init c = λ k l. absurd (omega arith)

pub returns-in-Some : goal.returns-in-Some
returns-in-Some c = breaks-hit _ _ _ _ _ _ refl (row_at _ _ _ _) c.in-Some.ensures

pub loop-i-preserved : goal.loop-i-preserved
loop-i-preserved c =
    let s = c.args.self.now in
    let o = c.args.others.now in
    let below = below_more (λ (k : ℕ). Throughout (sheet_of s.tables.now) (RowKept o.targets o.lows o.highs k) s.n) c.loop-i.i c.loop-i.invariant in
    elim c.if-is_new_row.branch [
      | then-is_new_row+in_default w ↦ below (w.in_default.ensures.kept refl)
      | else-is_new_row w ↦ below ((c.is_new_row.ensures w.if-is_new_row.false).kept refl)
    ]

pub returns : goal.returns
returns c = breaks-none _ _ _ _ _ refl (λ w h e. rows_of _ _ _ _ w h (λ k l. c.loop-i.invariant k (omega (arith, c.loop-i-test.false)) w h e))
