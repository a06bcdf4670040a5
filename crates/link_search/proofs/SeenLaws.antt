-- Looks at one part after the other.
-- Assumes nothing.
use Prim.Native.Nat.{ℕ}
use mathlib.Core.Bool.{false≢true}
use mathlib.Core.List.{List}
use Rattle.std.specs.Prelude.{Option, None, Some, Result, Ok, Err, IsErr}
use Rattle.laws.specs.Bounded.{tally}
use Rattle.link_search.specs.Nets.{Net, net_of, Between}
use Rattle.link_search.specs.Families.{Within, limits_at}
use Rattle.link_search.specs.Answers.{Looked, Wanted}
use Rattle.link_search.specs.declared.Spot.{Spot}
use Rattle.link_search.specs.declared.NoNet.{NoNet}
use Rattle.link_search.specs.declared.asked.Limits.{Limits}

-- so much was looked at: P holds, or a bit was found
abbrev pub Seen : Type 0 → List ℕ → Option Spot → Type 0
Seen P may None = P
Seen P may (Some s) = Wanted may s

-- an error that is passed on
pub looked-err : (C : Net → Type 0) (must may : List ℕ) (r : Result (Option Spot) NoNet) → IsErr r → ((w : Net) → Between must may w → C w → ⊥) → Looked C must may r
looked-err C must may (Ok s) e h = absurd (false≢true e)
looked-err C must may (Err x) e h = h

-- row i is within its limits
abbrev pub RowFine : List Limits → List ℕ → ℕ → Type 0
RowFine rows must i = Within (limits_at rows i) (tally (net_of must i) 8)
