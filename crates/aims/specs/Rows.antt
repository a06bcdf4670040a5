-- One row of the tables at a time: the row at i speaks of the objects of type i / 32 and of slot i % 32.
-- Assumes nothing.
use Rattle.std.specs.Prelude.{◌%◌, ◌/◌, ◌<◌, ◌≤◌, ℕ, true, List, ◌≡◌, get_or}
use Rattle.laws.specs.Bits.{bit}
use Rattle.growing.specs.World.{World, target_count}

-- no object of the types a has a link in slot s to one of the types b
pub record AllLinksAvoided (s a b : ℕ) (w : World) : Type 0 where
  pub at : (o p : ℕ) → o < w.size → p < w.size → bit (w.kind o) a ≡ true → bit (w.kind p) b ≡ true → w.link s o p ≡ true → ⊥

-- the links of the row go to types of its mask
pub record RowTargetsKept (targets : List ℕ) (i : ℕ) (w : World) : Type 0 where
  pub at : (o p : ℕ) → o < w.size → p < w.size → w.kind o ≡ i / 32 → w.link (i % 32) o p ≡ true → bit (w.kind p) (get_or targets i 0) ≡ true

-- their number is at least so much
pub record LowsKept (lows : List ℕ) (i : ℕ) (w : World) : Type 0 where
  pub at : (o : ℕ) → o < w.size → w.kind o ≡ i / 32 → get_or lows i 0 ≤ target_count w (i % 32) o

-- and at most so much
pub record HighsKept (highs : List ℕ) (i : ℕ) (w : World) : Type 0 where
  pub at : (o : ℕ) → o < w.size → w.kind o ≡ i / 32 → target_count w (i % 32) o ≤ get_or highs i 0

pub record RowKept (targets lows highs : List ℕ) (i : ℕ) (w : World) : Type 0 where
  pub targets-kept : RowTargetsKept targets i w
  pub low-kept : LowsKept lows i w
  pub high-kept : HighsKept highs i w
