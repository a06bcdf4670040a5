-- A record in memory with a field more.
-- Assumes nothing.
use Rattle.std.specs.Prelude.{◌*◌, ◌+◌, ◌^◌, ◌≤◌, ℕ, cond, true, List, ◌≡◌, ltb, get_or, set}
use Rattle.std.specs.Int.Bits.{bit_or}
use Rattle.files.specs.Diagram.{Diagram}
use Rattle.files.specs.Record.{Record, object_count}
use Rattle.files.specs.RecordFile.{record_refusal, record_with}
use Rattle.records.specs.declared.MemoryRecord.{MemoryRecord}
use Rattle.records.specs.Represents.{Represents}

-- ---- one thing stored

-- one object more, of the type at index i
abbrev pub with_type : MemoryRecord → ℕ → MemoryRecord
with_type m i = record {
  count = m.count + 1;
  types = set m.types m.count i;
  values = m.values;
  links = m.links;
  strays = m.strays;
}

-- x at place i of the values, of the links
abbrev pub with_value_at : MemoryRecord → ℕ → ℕ → MemoryRecord
with_value_at m i x = record { count = m.count; types = m.types; values = set m.values i x; links = m.links; strays = m.strays }

abbrev pub with_mask_at : MemoryRecord → ℕ → ℕ → MemoryRecord
with_mask_at m i x = record { count = m.count; types = m.types; values = m.values; links = set m.links i x; strays = m.strays }

-- a value, a link, that the diagram has no index for
abbrev pub with_stray_value : MemoryRecord → MemoryRecord
with_stray_value m = record {
  count = m.count;
  types = m.types;
  values = m.values;
  links = m.links;
  strays = record { values = true; links = m.strays.links };
}

abbrev pub with_stray_link : MemoryRecord → MemoryRecord
with_stray_link m = record {
  count = m.count;
  types = m.types;
  values = m.values;
  links = m.links;
  strays = record { values = m.strays.values; links = true };
}

-- ---- a value, a link, by the slot s of its name; s is k for a name of no slot

unfoldable pub value_stored : MemoryRecord → ℕ → ℕ → ℕ → ℕ → MemoryRecord
value_stored m s k object code = cond (ltb s k) (with_value_at m (object * 32 + s) (1 + code)) (with_stray_value m)

unfoldable pub link_stored : MemoryRecord → ℕ → ℕ → ℕ → ℕ → MemoryRecord
link_stored m s k from to =
    let i = from * 32 + s in
    cond (ltb s k) (with_mask_at m i (bit_or (get_or m.links i 0) (2 ^ to))) (with_stray_link m)

-- ---- what a record in memory is to a record of names, and what a field that is not refused keeps

-- it has as many objects, and stands for it
pub record StandsSoFar (d : Diagram) (r : Record) (m : MemoryRecord) : Type 0 where
  pub count : m.count ≡ object_count r
  pub stands : Represents d r m

-- where m stands for what was read, n stands for that and the field of tag t and content c
pub record Takes (d : Diagram) (t : ℕ) (c : List ℕ) (m n : MemoryRecord) : Type 0 where
  pub more : (last count : ℕ) (r : Record) → count ≤ 8 → StandsSoFar d r m → record_refusal last count r t c ≡ 0 → StandsSoFar d (record_with r t c) n
