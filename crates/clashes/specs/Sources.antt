-- What a table of sources says of a world.
-- Assumes nothing.
use Rattle.std.specs.Prelude.{◌*◌, ◌+◌, ◌<◌, ℕ, true, List, ◌≡◌, get_or}
use Rattle.laws.specs.Bits.{bit}
use Rattle.growing.specs.World.{World}

-- a source of an object has a type that the table of sources has for it
pub record SourcesKept (sources : List ℕ) (w : World) : Type 0 where
  pub at : (s o p : ℕ) → s < 32 → o < w.size → p < w.size → w.link s o p ≡ true → bit (w.kind o) (get_or sources (w.kind p * 32 + s) 0) ≡ true
