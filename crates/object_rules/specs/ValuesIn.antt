-- Rules 3 and 4 on numbers: what they say once instances are masks and names are slots.
-- Assumes nothing.
use Rattle.std.specs.Prelude.{◌%◌, ◌*◌, ◌+◌, ◌-◌, ◌/◌, ℕ, Bool, not, List, eqb, ltb, get_or}
use Rattle.laws.specs.Bounded.{all, any}
use Rattle.laws.specs.Connective.{both, imp, same}
use Rattle.declarations.specs.Declares.{agrees_at, declares_at}

-- slot s is one of n, and its name's own
unfoldable pub own_slot : List ℕ → ℕ → ℕ → Bool
own_slot slots n s = both (ltb s n) (eqb (get_or slots s 0) s)

-- rule 3, for object o and the name of attribute a: a value is there exactly when one of n attributes declares it
unfoldable pub due_at : List ℕ → List ℕ → List ℕ → List ℕ → ℕ → ℕ → ℕ → Bool
due_at values owners masks slots n o a =
    same (not (eqb (get_or values (o * 32 + get_or slots a 0) 0) 0)) (any (declares_at owners masks slots o (get_or slots a 0)) n)

unfoldable pub due_for : List ℕ → List ℕ → List ℕ → List ℕ → ℕ → ℕ → Bool
due_for values owners masks slots n o = all (due_at values owners masks slots n o) n

-- rule 4, for the value at x, of object x / 32 in slot x % 32, and n attributes; its code is one less than what is kept
unfoldable pub value_fits : List ℕ → List ℕ → List ℕ → List ℕ → List ℕ → ℕ → ℕ → Bool
value_fits values owners types masks slots n x =
    imp (both (own_slot slots n (x % 32)) (not (eqb (get_or values x 0) 0)))
    (all (agrees_at owners types masks slots (x / 32) (x % 32) ((get_or values x 0 - 1) / 8)) n)
