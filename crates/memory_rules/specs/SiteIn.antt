-- The site of a record in memory, as its diagram sees it. Asked for names that the diagram has, it answers as the record of
-- names that it stands for does (proofs/SiteInLaws); what the diagram has no index for is left to the marks.
-- Assumes nothing.
use Rattle.std.specs.Prelude.{◌%◌, ◌*◌, ◌-◌, ◌/◌, ℕ, Bool, not, [], eqb, ltb, get_or, length}
use Rattle.laws.specs.Bounded.{all}
use Rattle.laws.specs.Connective.{both, imp}
use Rattle.files.specs.Diagram.{Diagram, attribute_at, value_type_at}
use Rattle.files.specs.Name.{Name}
use Rattle.files.specs.Record.{Link, Value}
use Rattle.records.specs.declared.MemoryRecord.{MemoryRecord}
use Rattle.records.specs.Slots.{attribute_slot, own_attribute, own_role, role_count, role_name, role_slot, type_index}
use Rattle.records.specs.Written.{link_in, value_in}
use Rattle.rules.specs.Site.{Site}

unfoldable pub typed_in : Diagram → MemoryRecord → ℕ → Name → Bool
typed_in d m o w = eqb (type_index d w) (get_or m.types o 0)

unfoldable pub valued_in : Diagram → MemoryRecord → ℕ → Name → Bool
valued_in d m o w = both (ltb (attribute_slot d w) (length d.attributes)) (not (eqb (value_in m o (attribute_slot d w)) 0))

unfoldable pub linked_in : Diagram → MemoryRecord → ℕ → Name → ℕ → Bool
linked_in d m o w p = both (ltb (role_slot d w) (role_count d)) (link_in m o (role_slot d w) p)

-- ---- values: number x is object x / 32, slot x % 32

unfoldable pub value_kept : Diagram → MemoryRecord → ℕ → Bool
value_kept d m x = both (own_attribute d (x % 32)) (not (eqb (value_in m (x / 32) (x % 32)) 0))

-- a code past the last value type has a value type without a name, to which nothing belongs
unfoldable pub kept_value : Diagram → MemoryRecord → ℕ → Value
kept_value d m x =
    let k = value_in m (x / 32) (x % 32) - 1 in
    record { object = x / 32; attribute = (attribute_at d (x % 32)).name; value_type = (value_type_at d (k / 8)).name; constant = get_or (value_type_at d (k / 8)).constants (k % 8) [] }

-- ---- links: number x is object x / 256, slot x / 8 % 32, target x % 8

unfoldable pub link_kept : Diagram → MemoryRecord → ℕ → Bool
link_kept d m x = both (own_role d (x / 8 % 32)) (link_in m (x / 256) (x / 8 % 32) (x % 8))

unfoldable pub kept_link : Diagram → ℕ → Link
kept_link d x = record { from = x / 256; role = role_name d (x / 8 % 32); to = x % 8 }

-- ---- the site

unfoldable pub site_in : Diagram → MemoryRecord → Site
site_in d m = record {
  count = m.count;
  typed = typed_in d m;
  valued = valued_in d m;
  linked = linked_in d m;
  each_value = λ test. all (λ x. imp (value_kept d m x) (test (kept_value d m x))) (m.count * 32);
  each_link = λ test. all (λ x. imp (link_kept d m x) (test (kept_link d x))) (m.count * 256);
}
