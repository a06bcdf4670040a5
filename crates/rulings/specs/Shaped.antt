-- What a record in memory is like whose objects have types of the diagram and whose links are between its objects.
-- Assumes nothing.
use Rattle.std.specs.Prelude.{◌<◌, ◌≤◌, ℕ, true, ◌≡◌, get_or, length}
use Rattle.files.specs.Diagram.{Diagram}
use Rattle.records.specs.declared.MemoryRecord.{MemoryRecord}
use Rattle.records.specs.Slots.{own_role}
use Rattle.records.specs.Written.{link_in}

-- the type of object o
abbrev pub kind_in : MemoryRecord → ℕ → ℕ
kind_in m o = get_or m.types o 0

pub record Shaped (old : Diagram) (m : MemoryRecord) : Type 0 where
  pub few : m.count ≤ 8
  pub known : (o : ℕ) → o < m.count → kind_in m o < length old.types
  -- a link is one of an object, to an object: there is none in the rows of objects from `count` on
  pub inside : (o s p : ℕ) → o < 8 → s < 32 → p < 8 → link_in m o s p ≡ true → (o < m.count) × (p < m.count)
  -- and it stands in a slot that is its role's own
  pub own : (o s p : ℕ) → o < m.count → s < 32 → p < 8 → link_in m o s p ≡ true → own_role old s ≡ true
