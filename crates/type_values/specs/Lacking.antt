-- Values of old that new does not have, by value type: they decide which values an object can have that new forbids.
-- Assumes nothing.
use Rattle.std.specs.Prelude.{◌*◌, ◌+◌, ◌-◌, ℕ, Bool, cond, not, true, eqb, length}
use Rattle.laws.specs.Bounded.{any, first}
use Rattle.laws.specs.Connective.{both, either, imp}
use Rattle.files.specs.Diagram.{Diagram, attribute_at, type_at, value_type_at}
use Rattle.files.specs.Name.{same_name}
use Rattle.records.specs.Written.{constant_known}
use Rattle.rules.specs.ValueRules.{belongs}
use Rattle.type_tables.specs.Due.{due}
use Rattle.type_values.specs.Bad.{coded_value}
use Rattle.type_values.specs.Named.{due_named}

module _ (old new : Diagram) where
  -- the value with code k belongs to a value type of new
  unfoldable pub shared : ℕ → Bool
  shared k = any (λ j. belongs (coded_value old 0 k) (value_type_at new j)) (length new.value_types)

  -- constant c of value type v is a value that new does not have
  unfoldable pub lacking : ℕ → ℕ → Bool
  lacking v c = both (constant_known old (v * 8 + c)) (not (shared (v * 8 + c)))

  -- the first one, or 8
  unfoldable pub first_lacking : ℕ → ℕ
  first_lacking v = first (lacking v) 8

  -- new's value type with the name of v, or the number of new's value types
  unfoldable pub same_type : ℕ → ℕ
  same_type v = first (λ j. same_name (value_type_at new j).name (value_type_at old v).name) (length new.value_types)

  -- old asks for e, new for f: each value that old allows new allows
  unfoldable pub due_kept : ℕ → ℕ → Bool
  due_kept e f =
      cond (eqb e 0) true
      (both (not (eqb f 0)) (either (eqb e 255) (both (eqb f (1 + same_type (e - 1))) (eqb (first_lacking (e - 1)) 8))))

-- ---- rules 3 and 4 by slots, for an object of old's type t, which has the name of new's type u

module _ (old new : Diagram) (t u : ℕ) where
  -- what old asks for in slot s new asks for by the same name, and allows what old allows
  unfoldable pub slot_kept : ℕ → Bool
  slot_kept s = due_kept old new (due old t s) (due_named new (type_at old t).name (attribute_at old s).name)

  -- where new asks for a value in slot s, old asks for one by the same name
  unfoldable pub slot_asked : ℕ → Bool
  slot_asked s = imp (not (eqb (due new u s) 0)) (not (eqb (due_named old (type_at old t).name (attribute_at new s).name) 0))
