-- What is asked of a value, by numbers of the arrays, before anything is said of a diagram: a type is its set of ancestors, an
-- attribute's name is its slot.
-- Assumes nothing.
use Rattle.std.specs.Prelude.{◌%◌, ◌/◌, suc, zero, ℕ, Bool, cond, List, eqb, get_or}
use Rattle.laws.specs.Bits.{bit}
use Rattle.laws.specs.Connective.{both}
use Rattle.type_tables.specs.Due.{joined}

-- the owner of attribute a is in the set, and its name in slot s
unfoldable pub declares_in : ℕ → List ℕ → List ℕ → ℕ → ℕ → Bool
declares_in set owners slots s a = both (bit (get_or owners a 0) set) (eqb (get_or slots a 0) s)

-- after e, by attribute a besides
unfoldable pub due_more : ℕ → List ℕ → List ℕ → List ℕ → ℕ → ℕ → ℕ → ℕ
due_more set owners types slots s a e = cond (declares_in set owners slots s a) (joined e (get_or types a 0)) e

-- by the first n attributes
unfoldable pub due_in : ℕ → List ℕ → List ℕ → List ℕ → ℕ → ℕ → ℕ
due_in set owners types slots s zero = 0
due_in set owners types slots s (suc n) = due_more set owners types slots s n (due_in set owners types slots s n)

-- for type x / 32 and slot x % 32
abbrev pub due_at : List ℕ → List ℕ → List ℕ → List ℕ → ℕ → ℕ → ℕ
due_at sets owners types slots n x = due_in (get_or sets (x / 32) 0) owners types slots (x % 32) n
