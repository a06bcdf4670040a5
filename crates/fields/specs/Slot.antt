-- Names kept in a row of slots of 17 bytes: the length, and room for 16 bytes.
-- Assumes nothing.
use Rattle.std.specs.Prelude.{ℕ, Bool, ◌+◌, ◌*◌, ◌%◌, min, List, [], cond, eqb, ltb, get_or, take, drop}
use Rattle.laws.specs.Bounded.{any, first}
use Rattle.laws.specs.Connective.{both, either}
use Rattle.files.specs.Name.{Name, same_name}

-- the name in slot i
unfoldable pub slot_name : List ℕ → ℕ → List ℕ
slot_name names i = take (min 16 (get_or names (i * 17) 0)) (drop (i * 17 + 1) names)

-- one of the first n slots has the name w
unfoldable pub is_among : List ℕ → ℕ → Name → Bool
is_among names n w = any (λ i. same_name (slot_name names i) w) n

-- the first of the first k slots with the name w, or k
unfoldable pub slot_of : List ℕ → ℕ → Name → ℕ
slot_of names k w = first (λ i. same_name (slot_name names i) w) k

-- the name of constant k % 8 of value type k / 8, which has `size`
unfoldable pub constant_name : List ℕ → ℕ → ℕ → Name
constant_name constants size k = cond (ltb (k % 8) size) (slot_name constants k) []

-- of `size` constants, c is one, or it is the unnamed value
unfoldable pub known_in : ℕ → ℕ → Bool
known_in size c = either (ltb c size) (both (eqb size 0) (eqb c 0))
