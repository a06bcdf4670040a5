-- Tables of a diagram by its types.
-- Assumes nothing.
use Rattle.std.specs.Prelude.{◌*◌, ◌+◌, ◌<◌, ℕ, List, ◌≡◌, get_or, length}
use Rattle.files.specs.Diagram.{Diagram, type_at}
use Rattle.records.specs.Slots.{type_index}
use Rattle.type_tables.specs.Due.{due}

-- the kinds of the types
pub record Kinds (d : Diagram) (kinds : List ℕ) : Type 0 where
  pub exact : (t : ℕ) → t < length d.types → get_or kinds t 0 ≡ (type_at d t).kind

-- what is asked of a value of type t in slot s, at t * 32 + s
pub record Dues (d : Diagram) (dues : List ℕ) : Type 0 where
  pub exact : (t s : ℕ) → t < length d.types → s < 32 → get_or dues (t * 32 + s) 0 ≡ due d t s

-- for each type of d the type of e with the same name, or their number where there is none
pub record TypePlaces (d e : Diagram) (index : List ℕ) : Type 0 where
  pub exact : (t : ℕ) → t < length d.types → get_or index t 0 ≡ type_index e (type_at d t).name
