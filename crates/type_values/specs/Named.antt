-- What a diagram asks of the values of an object whose type is given by its name.
-- Assumes nothing.
use Rattle.std.specs.Prelude.{◌-◌, ℕ, Bool, cond, not, true, eqb, ltb, length}
use Rattle.laws.specs.Connective.{both}
use Rattle.files.specs.Diagram.{Diagram, value_type_at}
use Rattle.files.specs.Name.{Name}
use Rattle.files.specs.Record.{Value}
use Rattle.records.specs.Slots.{attribute_slot, type_index}
use Rattle.rules.specs.ValueRules.{belongs}
use Rattle.type_tables.specs.Due.{due}

-- for the attribute name w: 0 for no value, 1 + v for one of value type v, 255 where declarations disagree
unfoldable pub due_named : Diagram → Name → Name → ℕ
due_named d type w = cond (ltb (type_index d type) (length d.types)) (due d (type_index d type) (attribute_slot d w)) 0

-- a value belongs to all that is asked for so
unfoldable pub fits_due : Diagram → Value → ℕ → Bool
fits_due d v e = cond (eqb e 0) true (both (not (eqb e 255)) (belongs v (value_type_at d (e - 1))))
