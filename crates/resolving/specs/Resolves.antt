-- A record in memory is what a diagram makes of an accepted record file. Of a file that is not accepted nothing is said.
-- Assumes nothing.
use Rattle.std.specs.Prelude.{ℕ, List, ◌≡◌}
use Rattle.files.specs.Diagram.{Diagram}
use Rattle.files.specs.Record.{Record, object_count}
use Rattle.files.specs.RecordFile.{read_record}
use Rattle.files.specs.Refusal.{accepted}
use Rattle.records.specs.declared.MemoryRecord.{MemoryRecord}
use Rattle.records.specs.Represents.{Represents}

pub record Resolves (d : Diagram) (file : List ℕ) (m : MemoryRecord) : Type 0 where
  pub count : (r : Record) → read_record file ≡ accepted r → m.count ≡ object_count r
  pub stands : (r : Record) → read_record file ≡ accepted r → Represents d r m
