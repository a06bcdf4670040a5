-- Tables that the rules are judged by: for each type a mask of its instances, and for each declaration the slot of its name.
-- Assumes nothing.
use Rattle.std.specs.Prelude.{◌-◌, ◌<◌, ◌≤◌, ℕ, List, ◌≢◌, ◌⊎◌, ◌≡◌, get_or, length}
use Rattle.laws.specs.Bits.{bit}
use Rattle.files.specs.Diagram.{Diagram, attribute_at}
use Rattle.records.specs.declared.MemoryRecord.{MemoryRecord}
use Rattle.records.specs.Slots.{attribute_slot, role_count, role_name, role_slot}
use Rattle.records.specs.Written.{IsValue, value_in}
use Rattle.rules.specs.Instance.{is_instance}
use Rattle.memory_rules.specs.SiteIn.{site_in}

-- the mask at t holds the instances of type t among the objects; a place past the last object, to which a link may lead, counts by
-- the type index that stands there
pub record Instances (d : Diagram) (m : MemoryRecord) (masks : List ℕ) : Type 0 where
  pub exact : (t o : ℕ) → t < length d.types → o < m.count → bit o (get_or masks t 0) ≡ is_instance d (site_in d m) t o
  pub beyond : (t o : ℕ) → t < length d.types → m.count ≤ o → o < 8 → bit o (get_or masks t 0) ≡ is_instance d (site_in d m) t o

-- the slot of each end's role name
pub record RoleSlots (d : Diagram) (slots : List ℕ) : Type 0 where
  pub exact : (e : ℕ) → e < role_count d → get_or slots e 0 ≡ role_slot d (role_name d e)

-- the slot of each attribute's name
pub record AttributeSlots (d : Diagram) (slots : List ℕ) : Type 0 where
  pub exact : (a : ℕ) → a < length d.attributes → get_or slots a 0 ≡ attribute_slot d (attribute_at d a).name

-- what the code asks of a record in memory besides: few objects, and codes that are values or past the last one
pub record Coded (d : Diagram) (m : MemoryRecord) : Type 0 where
  pub few : m.count ≤ 8
  pub codes : (o s : ℕ) → o < m.count → s < length d.attributes → value_in m o s ≢ 0 → IsValue d (value_in m o s - 1) ⊎ (value_in m o s ≡ 97)

-- the same with one proof at most: a code that is not past the last one is a value
pub record Codes (d : Diagram) (m : MemoryRecord) : Type 0 where
  pub few : m.count ≤ 8
  pub known : (o s : ℕ) → o < m.count → s < length d.attributes → value_in m o s ≢ 0 → value_in m o s ≢ 97 → IsValue d (value_in m o s - 1)
