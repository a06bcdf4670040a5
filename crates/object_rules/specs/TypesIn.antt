-- Rules 1 and 2 on numbers: what they say once each object's type is an index.
-- Assumes nothing.
use Rattle.std.specs.Prelude.{ℕ, Bool, List, eqb, ltb, get_or}
use Rattle.laws.specs.Bounded.{tally}
use Rattle.laws.specs.Connective.{both, either, imp}

-- rule 1, for object o: its type is one of the n types, of kind 0 or 3
unfoldable pub concrete_at : List ℕ → ℕ → List ℕ → ℕ → Bool
concrete_at kinds n types o =
    both (ltb (get_or types o 0) n) (either (eqb (get_or kinds (get_or types o 0) 0) 0) (eqb (get_or kinds (get_or types o 0) 0) 3))

-- object o has type i itself
unfoldable pub typed_at : List ℕ → ℕ → ℕ → Bool
typed_at types i o = eqb i (get_or types o 0)

-- rule 2, for type i and n objects
unfoldable pub single_at : List ℕ → List ℕ → ℕ → ℕ → Bool
single_at kinds types n i = imp (eqb (get_or kinds i 0) 3) (eqb (tally (typed_at types i) n) 1)
