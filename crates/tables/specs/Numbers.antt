-- The tables' entries as numbers of the arrays, before anything is said of a diagram.
-- Assumes nothing.
use Rattle.std.specs.Prelude.{ℕ, Bool, cond, List, ltb, get_or}
use Rattle.laws.specs.Bits.{bit}
use Rattle.laws.specs.Bounded.{first}
use Rattle.files.specs.Name.{same_name}
use Rattle.fields.specs.Slot.{slot_name}

-- the set of the type that stands at place o, empty where it is none of the n types
unfoldable pub set_at : List ℕ → ℕ → List ℕ → ℕ → ℕ
set_at sets n types o = cond (ltb (get_or types o 0) n) (get_or sets (get_or types o 0) 0) 0

-- that set has type k
unfoldable pub counts_as : List ℕ → ℕ → List ℕ → ℕ → ℕ → Bool
counts_as sets n types k o = bit k (set_at sets n types o)

-- the first of n names that is the same as name i
unfoldable pub slot_at : List ℕ → ℕ → ℕ → ℕ
slot_at names n i = first (λ t. same_name (slot_name names t) (slot_name names i)) n
