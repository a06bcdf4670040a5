-- A name looked up in a row of slots, and a value looked up in the rows of value types and constants, as the arrays have them.
-- Assumes nothing.
use Rattle.std.specs.Prelude.{◌%◌, ◌/◌, ℕ, Bool, List, eqb, ltb, get_or, length}
use Rattle.laws.specs.Connective.{both, either}
use Rattle.fields.specs.Slot.{slot_name}
use Rattle.files.specs.Name.{Name, same_name}

-- code k is that of the constant c, where its value type has `size` constants
unfoldable pub is_constant_in : List ℕ → ℕ → Name → ℕ → Bool
is_constant_in constants size c k =
    either (both (ltb (k % 8) size) (same_name (slot_name constants k) c))
    (both (eqb size 0) (both (eqb (k % 8) 0) (eqb (length c) 0)))

-- code k is that of the constant c of a value type t, one of the first n
unfoldable pub is_code_in : List ℕ → List ℕ → List ℕ → ℕ → Name → Name → ℕ → Bool
is_code_in names sizes constants n t c k =
    both (ltb (k / 8) n)
    (both (same_name (slot_name names (k / 8)) t) (is_constant_in constants (get_or sizes (k / 8) 0) c k))
