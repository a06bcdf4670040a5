-- Records in memory that keep nothing beside what is written: no marks, and values and links only of objects, in slots that are their
-- names' own.
-- Assumes nothing.
use Rattle.std.specs.Prelude.{◌<◌, ℕ, false, true, ◌≢◌, ◌≡◌}
use Rattle.files.specs.Diagram.{Diagram}
use Rattle.records.specs.Slots.{own_attribute, own_role}
use Rattle.records.specs.Written.{link_in, value_in}
use Rattle.records.specs.declared.MemoryRecord.{MemoryRecord}

pub record Clean (d : Diagram) (m : MemoryRecord) : Type 0 where
  pub values : (o s : ℕ) → o < 8 → s < 32 → value_in m o s ≢ 0 → (o < m.count) × (own_attribute d s ≡ true)
  pub links : (o s p : ℕ) → o < 8 → s < 32 → p < 8 → link_in m o s p ≡ true → (o < m.count) × (own_role d s ≡ true)
  pub no-stray-values : m.strays.values ≡ false
  pub no-stray-links : m.strays.links ≡ false
