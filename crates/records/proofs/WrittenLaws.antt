-- The objects of the record that a record in memory stands for.
-- Assumes nothing.
use Prim.Native.Nat.{ℕ, ◌<◌}
use mathlib.Core.List.{[]}
use mathlib.Core.Path.{◌≡◌}
use lib.ListN.{get_or}
use Rattle.laws.proofs.JoinedLaws.{get_or-each, length-each}
use Rattle.files.specs.Diagram.{Diagram, type_at}
use Rattle.files.specs.Record.{object_count, object_type}
use Rattle.records.specs.declared.MemoryRecord.{MemoryRecord}
use Rattle.records.specs.Written.{record_of}

module _ (d : Diagram) (m : MemoryRecord) where
  pub written_count : object_count (record_of d m) ≡ m.count
  unfolding object_count record_of
  written_count = length-each (λ o. (type_at d (get_or m.types o 0)).name) [] m.count

  pub written-object : (o : ℕ) → o < m.count → object_type (record_of d m) o ≡ (type_at d (get_or m.types o 0)).name
  unfolding record_of
  written-object o l = get_or-each (λ o. (type_at d (get_or m.types o 0)).name) [] m.count o l
