-- A record of names in memory, as one diagram sees it: the one record in memory that stands for it (proofs/MemoryLaws).
-- Assumes nothing.
use Rattle.std.specs.Prelude.{◌%◌, ◌/◌, cond, ltb}
use Rattle.laws.specs.Bits.{mask_of}
use Rattle.laws.specs.Lists.{listed}
use Rattle.files.specs.Diagram.{Diagram}
use Rattle.files.specs.Record.{Record, object_count, object_type}
use Rattle.records.specs.declared.MemoryRecord.{MemoryRecord}
use Rattle.records.specs.Represents.{link_bit, stray_link, stray_value, value_byte}
use Rattle.records.specs.Slots.{type_index}

unfoldable pub memory_of : Diagram → Record → MemoryRecord
memory_of d r = record {
  count = object_count r;
  types = listed (λ o. cond (ltb o (object_count r)) (type_index d (object_type r o)) 0) 8;
  values = listed (λ x. value_byte d r (x / 32) (x % 32)) 256;
  links = listed (λ x. mask_of (link_bit d r (x / 32) (x % 32)) 8) 256;
  strays = record { values = stray_value d r; links = stray_link d r };
}
