-- One column at a time: how many sources of the types `from` an object of the types a has in slot s.
-- Assumes nothing.
use Rattle.std.specs.Prelude.{◌<◌, ◌≤◌, ℕ, true, ◌≡◌}
use Rattle.laws.specs.Bits.{bit}
use Rattle.growing.specs.World.{World, source_count}
use Rattle.link_search.specs.Nets.{InLimits}
use Rattle.worlds.specs.declared.Column.{Column}

-- at least so many
pub record LeastKept (s a from low : ℕ) (w : World) : Type 0 where
  pub at : (p : ℕ) → p < w.size → bit (w.kind p) a ≡ true → low ≤ source_count w s from p

-- at most so many
pub record MostKept (s a from high : ℕ) (w : World) : Type 0 where
  pub at : (p : ℕ) → p < w.size → bit (w.kind p) a ≡ true → source_count w s from p ≤ high

-- what a column asks
pub record ColumnKept (c : Column) (w : World) : Type 0 where
  pub at : (p : ℕ) → p < w.size → bit (w.kind p) c.to ≡ true → InLimits c.low c.high (source_count w c.slot c.from p)
