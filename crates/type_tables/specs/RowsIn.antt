-- Types and ends as numbers of the arrays, before anything is said of a diagram. Sets of types are masks.
-- Assumes nothing.
use Rattle.std.specs.Prelude.{◌%◌, ◌*◌, ◌+◌, ◌-◌, ◌/◌, ℕ, Bool, cond, List, eqb, get_or}
use Rattle.laws.specs.Bits.{bit}
use Rattle.rules.specs.Arrow.{carries_left, carries_right}

-- ---- types

-- type u counts as type x, by the sets of what each type counts as
unfoldable pub is_subtype : List ℕ → ℕ → ℕ → Bool
is_subtype sets x u = bit x (get_or sets u 0)

-- ---- ends

-- the other end of the same association
unfoldable pub other_end : ℕ → ℕ
other_end e = e / 2 * 2 + (1 - e % 2)

-- the arrow carries links to end e
unfoldable pub carried_in : List ℕ → ℕ → Bool
carried_in arrows e = cond (eqb (e % 2) 0) (carries_left (get_or arrows (e / 2) 0)) (carries_right (get_or arrows (e / 2) 0))
