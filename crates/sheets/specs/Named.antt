-- The types and roles of a diagram d found by their names in another one, old: tables of old's indices, and sets of old's types.
-- Assumes nothing.
use Rattle.std.specs.Prelude.{◌<◌, ◌≤◌, ℕ, false, List, ◌≡◌, get_or, length}
use Rattle.laws.specs.Bits.{bit}
use Rattle.files.specs.Diagram.{Diagram}
use Rattle.records.specs.Slots.{role_count}
use Rattle.type_tables.specs.Rows.{end_at}
use Rattle.views.specs.Views.{counts_as, slot_by}

-- the types of old whose objects are instances of each type of d
pub record SubtypesBy (old d : Diagram) (masks : List ℕ) : Type 0 where
  pub exact : (x t : ℕ) → x < length d.types → t < length old.types → bit t (get_or masks x 0) ≡ counts_as old d x t
  pub none : (x t : ℕ) → x < length d.types → length old.types ≤ t → bit t (get_or masks x 0) ≡ false

-- old's slot of the role of each end of d
pub record SlotsBy (old d : Diagram) (slots : List ℕ) : Type 0 where
  pub exact : (e : ℕ) → e < role_count d → get_or slots e 0 ≡ slot_by old d e
  pub few : (e : ℕ) → get_or slots e 0 ≤ 32

-- the types of old whose objects are instances of the type of each end of d
pub record EndsBy (old d : Diagram) (sets : List ℕ) : Type 0 where
  pub exact : (e t : ℕ) → e < role_count d → t < length old.types → bit t (get_or sets e 0) ≡ counts_as old d (end_at d e).type t
