-- Sets of types as numbers of the arrays, before anything is said of a diagram.
-- Assumes nothing.
use Rattle.std.specs.Prelude.{◌*◌, ◌+◌, ℕ, Bool, cond, not, List, eqb, leb, ltb, get_or}
use Rattle.laws.specs.Bounded.{all}
use Rattle.laws.specs.Connective.{both, either}
use Rattle.sheets.specs.RowsBy.{source_in}

-- an object of type t can have a value in slot s, or none: 255 says that declarations disagree
unfoldable pub fine_in : List ℕ → ℕ → ℕ → Bool
fine_in dues t s = not (eqb (get_or dues (t * 32 + s) 0) 255)

-- an object can have type t
unfoldable pub usable_in : List ℕ → List ℕ → ℕ → Bool
usable_in kinds dues t = both (either (eqb (get_or kinds t 0) 0) (eqb (get_or kinds t 0) 3)) (all (fine_in dues t) 32)

-- type t is a singleton class
unfoldable pub single_in : List ℕ → ℕ → Bool
single_in kinds t = eqb (get_or kinds t 0) 3

-- the types that are asked for links to end e, for which there is no slot
unfoldable pub missing_in : List ℕ → List ℕ → List ℕ → List ℕ → ℕ → ℕ
missing_in sets arrows slots lows e = cond (both (leb 32 (get_or slots e 0)) (ltb 0 (get_or lows e 0))) (source_in sets arrows e) 0
