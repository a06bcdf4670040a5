-- Rules 3 and 4 by types: what a diagram asks of the value of an object of one type in one attribute slot.
-- Assumes nothing.
use Rattle.std.specs.Prelude.{◌+◌, suc, zero, ℕ, Bool, cond, eqb, length}
use Rattle.laws.specs.Connective.{both}
use Rattle.files.specs.Ancestor.{reaches}
use Rattle.files.specs.Diagram.{Diagram, attribute_at}
use Rattle.records.specs.Slots.{attribute_slot}

-- a further declaration with value type v, where e was asked before: the same one, or else nothing will do
unfoldable pub joined : ℕ → ℕ → ℕ
joined e v = cond (eqb e 0) (1 + v) (cond (eqb e (1 + v)) e 255)

module _ (d : Diagram) where
  -- type t or an ancestor declares attribute a, which has the name of slot s
  unfoldable pub declares_for : ℕ → ℕ → ℕ → Bool
  declares_for t s a = both (reaches d t (attribute_at d a).owner) (eqb (attribute_slot d (attribute_at d a).name) s)

  -- by the first n attributes: 0 for no value, 1 + v for one of value type v, 255 where declarations disagree
  unfoldable pub due_among : ℕ → ℕ → ℕ → ℕ
  due_among t s zero = 0
  due_among t s (suc n) = cond (declares_for t s n) (joined (due_among t s n) (attribute_at d n).value_type) (due_among t s n)

  unfoldable pub due : ℕ → ℕ → ℕ
  due t s = due_among t s (length d.attributes)
