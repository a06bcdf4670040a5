-- A record in memory stands for a record of names, as one diagram sees it. Each array's entry is an equation; what the diagram
-- has no index for leaves a mark.
-- Assumes nothing.
use Rattle.std.specs.Prelude.{◌*◌, ◌+◌, ◌<◌, suc, zero, ℕ, Bool, cond, ◌≡◌, eqb, get_or, length}
use Rattle.laws.specs.Bits.{bit}
use Rattle.laws.specs.Bounded.{any}
use Rattle.laws.specs.Connective.{both}
use Rattle.records.specs.declared.MemoryRecord.{MemoryRecord}
use Rattle.files.specs.Diagram.{Diagram, attribute_at}
use Rattle.files.specs.Membership.{has_link}
use Rattle.files.specs.Name.{Name, same_name}
use Rattle.files.specs.Record.{Record, Value, link_at, object_count, object_type, value_at}
use Rattle.records.specs.Slots.{attribute_slot, code_of, own_attribute, own_role, role_count, role_name, role_slot, type_index}

-- ---- what stands in each place

-- value v is one of object o for the attribute name w
abbrev pub value_for : Value → ℕ → Name → Bool
value_for v o w = both (eqb v.object o) (same_name v.attribute w)

-- one more than the code of the last of the first n values that is o's for the name w, or 0
unfoldable pub code_among : Diagram → Record → ℕ → Name → ℕ → ℕ
code_among d r o w zero = 0
code_among d r o w (suc n) = cond (value_for (value_at r n) o w) (1 + code_of d (value_at r n).value_type (value_at r n).constant) (code_among d r o w n)

unfoldable pub value_byte : Diagram → Record → ℕ → ℕ → ℕ
value_byte d r o s = cond (own_attribute d s) (code_among d r o (attribute_at d s).name (length r.values)) 0

unfoldable pub link_bit : Diagram → Record → ℕ → ℕ → ℕ → Bool
link_bit d r o s p = both (own_role d s) (has_link r o (role_name d s) p)

-- some value's attribute name, some link's role name, is none of the diagram's
unfoldable pub stray_value : Diagram → Record → Bool
stray_value d r = any (λ i. eqb (attribute_slot d (value_at r i).attribute) (length d.attributes)) (length r.values)

unfoldable pub stray_link : Diagram → Record → Bool
stray_link d r = any (λ i. eqb (role_slot d (link_at r i).role) (role_count d)) (length r.links)

-- ---- the relation

pub record Represents (d : Diagram) (r : Record) (m : MemoryRecord) : Type 0 where
  pub types : (o : ℕ) → o < object_count r → get_or m.types o 0 ≡ type_index d (object_type r o)
  pub values : (o s : ℕ) → o < 8 → s < 32 → get_or m.values (o * 32 + s) 0 ≡ value_byte d r o s
  pub links : (o s p : ℕ) → o < 8 → s < 32 → p < 8 → bit p (get_or m.links (o * 32 + s) 0) ≡ link_bit d r o s p
  pub stray-values : m.strays.values ≡ stray_value d r
  pub stray-links : m.strays.links ≡ stray_link d r
