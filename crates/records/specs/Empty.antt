-- The one record in memory with nothing in it.
-- Assumes nothing.
use Rattle.std.specs.Prelude.{false, replicate}
use Rattle.records.specs.declared.MemoryRecord.{MemoryRecord}

unfoldable pub empty_record : MemoryRecord
empty_record = record {
  count = 0;
  types = replicate 8 0;
  values = replicate 256 0;
  links = replicate 256 0;
  strays = record { values = false; links = false };
}
