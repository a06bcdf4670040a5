-- What permits a link, on numbers: once instances are masks and role names are slots.
-- Assumes nothing.
use Rattle.std.specs.Prelude.{◌*◌, ◌+◌, ℕ, Bool, List, eqb, get_or}
use Rattle.laws.specs.Bits.{bit}
use Rattle.laws.specs.Connective.{both, either}
use Rattle.rules.specs.Arrow.{carries_left, carries_right}

-- a link may be one of a side from end `from` to end `to`: the role in slot s is that of `to`, object o is an instance of `from`, and p of `to`
unfoldable pub joins : List ℕ → List ℕ → List ℕ → ℕ → ℕ → ℕ → ℕ → ℕ → Bool
joins types masks slots s o p from to =
    both (eqb (get_or slots to 0) s) (both (bit o (get_or masks (get_or types from 0) 0)) (bit p (get_or masks (get_or types to 0) 0)))

-- association a permits the link from o to p of the role in slot s, by a side whose links are carried
unfoldable pub permits_at : List ℕ → List ℕ → List ℕ → List ℕ → ℕ → ℕ → ℕ → ℕ → Bool
permits_at arrows types masks slots s o p a =
    either (both (carries_right (get_or arrows a 0)) (joins types masks slots s o p (a * 2) (a * 2 + 1)))
    (both (carries_left (get_or arrows a 0)) (joins types masks slots s o p (a * 2 + 1) (a * 2)))
