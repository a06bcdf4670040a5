use mathlib.Core.Path.{◌≡◌}
use Prim.Native.Nat.{◌<◌, ℕ}
use lib.ListN.{get_or, length}
use Rattle.sheets.specs.RowsBy.{leads_at, mask_at}
use Rattle.sheets.proofs.places.masks_of.Given as goal

abbrev pub invariant-loop-e : goal.invariant-loop-e
invariant-loop-e l = (length l.r ≡ 768) × ((x : ℕ) → x < 768 → get_or l.r x 0 ≡ mask_at l.more l.keeps (get_or l.initial.r x 0) (leads_at l.ends.sets l.ends.asked.now.arrows l.ends.slots l.ends.types x) l.e)
