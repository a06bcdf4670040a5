-- How many value types a diagram in memory has, and how many constants each of them.
-- Assumes nothing.
use Rattle.std.specs.Prelude.{◌<◌, ◌≤◌, ℕ, get_or}
use Rattle.diagrams.specs.declared.ValueTypes.{ValueTypes}

abbrev pub FewValues : ValueTypes → Type 0
FewValues values = (values.count ≤ 12) × ((i : ℕ) → i < values.count → get_or values.sizes i 0 ≤ 8)
