-- Tables of targets that allow the same worlds as a sheet's own.
-- Assumes nothing.
use Rattle.std.specs.Prelude.{◌*◌, ◌+◌, ◌<◌, ℕ, cond, true, List, ◌≡◌, eqb, get_or}
use Rattle.std.specs.Int.Bits.{bit_and}
use Rattle.laws.specs.Bits.{bit}
use Rattle.growing.specs.World.{World}
use Rattle.worlds.specs.Kept.{Allowed, Sheet}

-- the targets of a row of type t: none where it has no link or no object has the type, else those that objects can have
unfoldable pub usable_row : ℕ → ℕ → ℕ → ℕ → ℕ
usable_row mask high usable t = cond (eqb high 0) 0 (cond (bit t usable) (bit_and mask usable) 0)

-- r allows no more than the sheet's own table of targets, and each link of an allowed world
pub record Narrows (x : Sheet) (r : List ℕ) : Type 0 where
  pub less : (i t : ℕ) → i < 768 → bit t (get_or r i 0) ≡ true → bit t (get_or x.targets i 0) ≡ true
  pub kept : (w : World) → Allowed x w → (s o p : ℕ) → s < 32 → o < w.size → p < w.size → w.link s o p ≡ true
      → bit (w.kind p) (get_or r (w.kind o * 32 + s) 0) ≡ true
