-- What each family of needs reads of a world.
-- Assumes nothing.
use Rattle.std.specs.Prelude.{◌*◌, ◌+◌, ◌<◌, ℕ, false, true, List, ◌≡◌}
use Rattle.laws.specs.Bits.{bit}
use Rattle.growing.specs.World.{World, source_count}
use Rattle.link_search.specs.Nets.{InLimits, net_of}
use Rattle.worlds.specs.Kept.{RowsKept}

-- the rows by the tables, without the links that must not stand
pub record RowsOpen (targets lows highs shut : List ℕ) (w : World) : Type 0 where
  pub rows : RowsKept targets lows highs w
  pub apart : (o s p : ℕ) → o < 8 → s < 32 → p < 8 → net_of shut (o * 32 + s) p ≡ true → w.link s o p ≡ false

-- the number of sources of each object with a type of the mask `to` lies within the limits
pub record SourcesWithin (s mask to low high : ℕ) (w : World) : Type 0 where
  pub at : (p : ℕ) → p < w.size → bit (w.kind p) to ≡ true → InLimits low high (source_count w s mask p)
