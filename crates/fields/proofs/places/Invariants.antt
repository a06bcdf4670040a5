use Prim.Native.Nat.{◌<◌, ◌≤◌, ℕ}
use mathlib.Core.Path.{◌≡◌}
use lib.ListN.{get_or, length}
use Rattle.fields.specs.Slot.{slot_name, slot_of}
use Rattle.fields.proofs.places.Given as goal

abbrev pub invariant-loop-i : goal.invariant-loop-i
invariant-loop-i g l = (length l.r ≡ g.row.N) × ((j : ℕ) → j < l.i → get_or l.r j 0 ≡ slot_of l.others l.k (slot_name l.names j)) × ((j : ℕ) → get_or l.r j 0 ≤ l.k)
