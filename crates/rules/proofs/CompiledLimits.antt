-- 02: limits have the "range 0 to 4,000, with 65,535 for no upper limit", and 01: "Up is 0 for kinds 2 and 4". So no compiled record
-- has a low or an up above 4,000, and 65,535 stands in none; nor in the zero ones past the last, which are counted in.
-- Assumes nothing.
use Prim.Native.Nat.{◌≤◌, ℕ}
use native.Mathlib.Omega.{arith}
use mathlib.Core.Bool.{Bool, cond, false, true}
use mathlib.Core.List.{[], ◌∷◌}
use lib.ListN.{get_or, length}
use Rattle.laws.specs.Lists.{joined}
use Rattle.files.specs.Diagram.{Association, Diagram, Upper, association_at, at_most, is_composition, no_limit}
use Rattle.files.specs.Limit.{most_of}
use Rattle.files.specs.WellFormedDiagram.{FitsLimits, FitsUpper, WfDiagram}
use Rattle.rules.specs.Arrow.{Side, r1, r2}
use Rattle.rules.specs.Compile.{Asked, Entry, bare, by_rule6, by_rule7, compile, entries_of, entry_at, entry_for, kind5, limited, row_of}
use Rattle.laws.proofs.JoinedLaws.{joined-each}
use Rattle.laws.proofs.ListLaws.{append-each, one_each}

abbrev Finite : Entry → Type 0
Finite e = (e.low ≤ most_of 2) × (e.up ≤ most_of 2)

bare-finite : (kind i : ℕ) → Finite (bare kind i)
bare-finite kind i = (omega arith, omega arith)

limited-finite : (kind i : ℕ) (s : Side) (low : ℕ) (up : Upper) → low ≤ most_of 2 → FitsUpper 2 low up → Finite (limited kind i s low up)
unfolding limited
limited-finite kind i s low (at_most up) h w = (h, w.1)
limited-finite kind i s low no_limit h w = (h, omega arith)

module _ (i : ℕ) (a : Association) (left : FitsLimits 2 a.left.limits) (right : FitsLimits 2 a.right.limits) where
  entry-finite : (q : Asked) → Finite (entry_for i a q)
  unfolding entry_for
  entry-finite (by_rule6 r2) = limited-finite 1 i r2 a.right.limits.low a.right.limits.up right.low-fits right.up-fits
  entry-finite (by_rule6 r1) = limited-finite 1 i r1 a.left.limits.low a.left.limits.up left.low-fits left.up-fits
  entry-finite (by_rule7 r2) = limited-finite 3 i r2 a.left.limits.low a.left.limits.up left.low-fits left.up-fits
  entry-finite (by_rule7 r1) = limited-finite 3 i r1 a.right.limits.low a.right.limits.up right.low-fits right.up-fits
  entry-finite kind5 = bare-finite 5 i

  whole-finite : (b : Bool) (k : ℕ) → Finite (entry_at (cond b (bare 6 i ∷ []) []) k)
  whole-finite true k = one_each Finite (bare 0 0) (bare-finite 0 0) (bare 6 i) (bare-finite 6 i) k
  whole-finite false k = bare-finite 0 0

  entries-finite : (k : ℕ) → Finite (entry_at (entries_of i a) k)
  unfolding entries_of
  entries-finite k =
      let q : ℕ → Asked = λ j. get_or (row_of a) j kind5 in
      append-each Finite (bare 0 0) (joined (λ j. entry_for i a (q j) ∷ []) (length (row_of a))) (cond (is_composition a) (bare 6 i ∷ []) [])
      (joined-each Finite (bare 0 0) (bare-finite 0 0) (λ j. entry_for i a (q j) ∷ []) (length (row_of a))
      (λ j l. one_each Finite (bare 0 0) (bare-finite 0 0) (entry_for i a (q j)) (entry-finite (q j))))
      (whole-finite (is_composition a)) k

-- record k, or the zero one where there is none
pub compiled-limits : (d : Diagram) → WfDiagram d → (k : ℕ)
    → ((entry_at (compile d) k).low ≤ most_of 2) × ((entry_at (compile d) k).up ≤ most_of 2)
unfolding compile
compiled-limits d wf =
    joined-each Finite (bare 0 0) (bare-finite 0 0) (λ i. entries_of i (association_at d i)) (length d.associations)
    (λ i l. let w = wf.association i l in entries-finite i (association_at d i) w.left-fits.limits-fit w.right-fits.limits-fit)
