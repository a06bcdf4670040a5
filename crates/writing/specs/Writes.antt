-- What writing a record into a buffer gives.
-- Assumes nothing.
use Rattle.std.specs.Prelude.{ℕ, Bool, false, true, List, ◌≡◌, leb, length, Option, None, Some}
use Rattle.laws.specs.Connective.{both}
use Rattle.laws.specs.Lists.{over}
use Rattle.files.specs.Diagram.{Diagram}
use Rattle.files.specs.Record.{Record}
use Rattle.files.specs.RecordBytes.{write_record}
use Rattle.records.specs.declared.MemoryRecord.{MemoryRecord}
use Rattle.records.specs.WithinTest.{within}
use Rattle.records.specs.Written.{record_of}

-- the length of the record's one file, that file at the front, and the tail that was there
pub record Writes (x : Record) (before : List ℕ) (n : ℕ) (after : List ℕ) : Type 0 where
  pub length-is : n ≡ length (write_record x)
  pub bytes : after ≡ over (write_record x) before

-- the diagram has an index for everything in m, and `room` bytes hold the longest file of a record
unfoldable pub writable : Diagram → MemoryRecord → ℕ → Bool
writable d m room = both (leb 59300 room) (within d m)

-- For every record in memory and every buffer: the length of the file of what m stands for, which is at the front, where it can be
-- written; else none, and the buffer as it came.
abbrev pub WritesWithin : Diagram → MemoryRecord → List ℕ → Option ℕ → List ℕ → Type 0
WritesWithin d m before (Some n) after = (writable d m (length before) ≡ true) × Writes (record_of d m) before n after
WritesWithin d m before None after = (writable d m (length before) ≡ false) × (after ≡ before)
