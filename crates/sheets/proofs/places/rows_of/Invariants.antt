use Prim.Native.Nat.{◌<◌, ℕ}
use mathlib.Core.Path.{◌≡◌}
use lib.ListN.{get_or, length}
use Rattle.sheets.specs.RowsBy.{high_at, leads_at, low_at}
use Rattle.sheets.proofs.places.rows_of.Given as goal

abbrev pub invariant-loop-e : goal.invariant-loop-e
invariant-loop-e l = (length l.least ≡ 768) × (length l.most ≡ 768) × ((x : ℕ) → x < 768 → get_or l.least x 0 ≡ low_at l.ends.asked.now.lows (leads_at l.ends.sets l.ends.asked.now.arrows l.ends.slots l.ends.types x) l.e)
    × ((x : ℕ) → x < 768 → get_or l.most x 0 ≡ high_at l.ends.asked.now.ups (leads_at l.ends.sets l.ends.asked.now.arrows l.ends.slots l.ends.types x) l.e)
