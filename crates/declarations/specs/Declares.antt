-- Declarations on numbers: what they are once instances are masks and names are slots.
-- Assumes nothing.
use Rattle.std.specs.Prelude.{ℕ, Bool, List, eqb, get_or}
use Rattle.laws.specs.Bits.{bit}
use Rattle.laws.specs.Connective.{both, imp}

-- attribute a is one of object o's type or of an ancestor, and has the name in slot s
unfoldable pub declares_at : List ℕ → List ℕ → List ℕ → ℕ → ℕ → ℕ → Bool
declares_at owners masks slots o s a = both (bit o (get_or masks (get_or owners a 0) 0)) (eqb (get_or slots a 0) s)

-- rule 4, for a value of value type t in slot s of object o, and attribute a
unfoldable pub agrees_at : List ℕ → List ℕ → List ℕ → List ℕ → ℕ → ℕ → ℕ → ℕ → Bool
agrees_at owners types masks slots o s t a = imp (declares_at owners masks slots o s a) (eqb (get_or types a 0) t)
