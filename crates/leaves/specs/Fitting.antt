-- What a sheet and a query ask of the types of n objects, whatever their links.
-- Assumes nothing.
use Rattle.std.specs.Prelude.{ℕ, Bool, ◌&&◌, cond, not, List, eqb, leb, ltb, get_or}
use Rattle.laws.specs.Bits.{bit}
use Rattle.laws.specs.Bounded.{all, tally}
use Rattle.laws.specs.Connective.{both, imp}
use Rattle.worlds.specs.declared.Query.{Query}

-- object o has a type of the set
abbrev pub typed : List ℕ → ℕ → ℕ → Bool
typed types set o = bit (get_or types o 0) set

-- the type of object o is usable, and it is one that the query asks of this seed or does not rule out for another object
unfoldable pub type_fits : ℕ → ℕ → List ℕ → ℕ → List ℕ → ℕ → Bool
type_fits usable seeds wanted never types o = typed types usable o && cond (ltb o seeds) (typed types (get_or wanted o 0) o) (not (typed types never o))

-- at how many of the first n objects type t stands
unfoldable pub count_of : List ℕ → ℕ → ℕ → ℕ
count_of types n t = tally (λ o. eqb (get_or types o 0) t) n

-- if type t is a singleton, one object has it
unfoldable pub single_fits : ℕ → List ℕ → ℕ → ℕ → Bool
single_fits singles types n t = imp (bit t singles) (eqb (count_of types n t) 1)

-- all that is asked of types
unfoldable pub types_fit : ℕ → ℕ → Query → List ℕ → ℕ → Bool
types_fit usable singles q types n =
    both (leb q.seeds n) (both (all (type_fits usable q.seeds q.types q.never types) n) (all (single_fits singles types n) 24))
