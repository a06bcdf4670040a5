-- The record of names that a record in memory stands for where the diagram has an index for all of it: values and links in the
-- order of their names, as a file has them.
-- Assumes nothing.
use Rattle.std.specs.Prelude.{◌%◌, ◌*◌, ◌+◌, ◌-◌, ◌/◌, ◌<◌, ◌≤◌, ℕ, Bool, not, true, [], ◌≢◌, ◌≡◌, eqb, ltb, get_or, length}
use Rattle.laws.specs.Bits.{bit}
use Rattle.laws.specs.Connective.{both, either}
use Rattle.laws.specs.Lists.{listed, picked}
use Rattle.records.specs.declared.MemoryRecord.{MemoryRecord}
use Rattle.files.specs.Diagram.{Diagram, attribute_at, type_at, value_type_at}
use Rattle.files.specs.Record.{Link, Record, Value}
use Rattle.records.specs.Places.{place}
use Rattle.records.specs.Slots.{role_count, role_name}

-- ---- slots in the order of their names: the first slot of rank t, or the number of slots

unfoldable pub attribute_place : Diagram → ℕ → ℕ
attribute_place d t = place (λ s. (attribute_at d s).name) (length d.attributes) t

unfoldable pub role_place : Diagram → ℕ → ℕ
role_place d t = place (role_name d) (role_count d) t

-- ---- values: number x is object x / 32, place x % 32

abbrev pub value_in : MemoryRecord → ℕ → ℕ → ℕ
value_in m o s = get_or m.values (o * 32 + s) 0

unfoldable pub value_on : Diagram → MemoryRecord → ℕ → Bool
value_on d m x =
    let s = attribute_place d (x % 32) in
    both (ltb s (length d.attributes)) (not (eqb (value_in m (x / 32) s) 0))

unfoldable pub value_is : Diagram → MemoryRecord → ℕ → Value
value_is d m x =
    let s = attribute_place d (x % 32) in
    let k = value_in m (x / 32) s - 1 in
    record { object = x / 32; attribute = (attribute_at d s).name; value_type = (value_type_at d (k / 8)).name; constant = get_or (value_type_at d (k / 8)).constants (k % 8) [] }

-- ---- links: number x is object x / 256, place x / 8 % 32, target x % 8

abbrev pub link_in : MemoryRecord → ℕ → ℕ → ℕ → Bool
link_in m o s p = bit p (get_or m.links (o * 32 + s) 0)

unfoldable pub link_on : Diagram → MemoryRecord → ℕ → Bool
link_on d m x =
    let s = role_place d (x / 8 % 32) in
    both (ltb s (role_count d)) (link_in m (x / 256) s (x % 8))

unfoldable pub link_is : Diagram → ℕ → Link
link_is d x = record { from = x / 256; role = role_name d (role_place d (x / 8 % 32)); to = x % 8 }

-- ---- the record

unfoldable pub record_of : Diagram → MemoryRecord → Record
record_of d m = record {
  objects = listed (λ o. (type_at d (get_or m.types o 0)).name) m.count;
  values = picked (value_on d m) (value_is d m) (m.count * 32);
  links = picked (link_on d m) (link_is d) (m.count * 256);
}

-- ---- what can be written

-- k % 8 is a constant of value type k / 8, or the unnamed value of a plain one
abbrev pub constant_known : Diagram → ℕ → Bool
constant_known d k =
    either (ltb (k % 8) (length (value_type_at d (k / 8)).constants))
    (both (eqb (length (value_type_at d (k / 8)).constants) 0) (eqb (k % 8) 0))

-- code k is a constant of a value type, or the unnamed value of a plain one
pub record IsValue (d : Diagram) (k : ℕ) : Type 0 where
  pub type-known : k / 8 < length d.value_types
  pub constant-known : constant_known d k ≡ true

-- it has an index for everything: known types, values that are constants, targets that are objects
pub record Within (d : Diagram) (m : MemoryRecord) : Type 0 where
  pub few : m.count ≤ 8
  pub types : (o : ℕ) → o < m.count → get_or m.types o 0 < length d.types
  pub values : (o s : ℕ) → o < m.count → s < length d.attributes → value_in m o s ≢ 0 → IsValue d (value_in m o s - 1)
  pub targets : (o s p : ℕ) → o < m.count → s < role_count d → p < 8 → link_in m o s p ≡ true → p < m.count
