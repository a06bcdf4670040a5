-- What code asks of tables.
-- Assumes nothing.
use Rattle.std.specs.Prelude.{◌*◌, ◌+◌, ◌<◌, ℕ, List, ◌≡◌, get_or}
use Rattle.laws.specs.Bits.{bit}
use Rattle.worlds.specs.declared.Lines.{Lines}
use Rattle.worlds.specs.Lined.{column_at, mirror_at, whole_at}

-- the slots of lines are role slots
pub record Slotted (x : Lines) : Type 0 where
  pub column : (j : ℕ) → j < 16 → (column_at x j).slot < 32
  pub right : (j : ℕ) → j < 16 → (mirror_at x j).right < 32
  pub left : (j : ℕ) → j < 16 → (mirror_at x j).left < 32
  pub whole : (j : ℕ) → j < 16 → (whole_at x j).slot < 32

-- types are numbers of types: a diagram has at most 24
abbrev pub SmallTypes : List ℕ → Type 0
SmallTypes types = (o : ℕ) → get_or types o 0 < 24

-- the table of sources is the table of targets, turned: t may have u as a target in slot s
pub record SourceTable (targets sources : List ℕ) : Type 0 where
  pub at : (t s u : ℕ) → t < 24 → s < 32 → u < 24 → bit t (get_or sources (u * 32 + s) 0) ≡ bit u (get_or targets (t * 32 + s) 0)
