-- The tables of a diagram d, by the types and role slots of old. With d = old these are the diagram's own.
-- Assumes nothing.
use Rattle.std.specs.Prelude.{◌*◌, ◌+◌, ◌<◌, ◌≤◌, ℕ, Bool, false, not, List, ◌≡◌, eqb, leb, ltb, get_or, length}
use Rattle.laws.specs.Bits.{bit}
use Rattle.laws.specs.Bounded.{all, any}
use Rattle.laws.specs.Connective.{both}
use Rattle.files.specs.Diagram.{Diagram, is_concrete, is_singleton, type_at}
use Rattle.records.specs.Slots.{role_count, type_index}
use Rattle.type_tables.specs.Due.{due}
use Rattle.type_tables.specs.Rows.{carried_to, end_at, opposite}
use Rattle.views.specs.Views.{column_from, column_high, column_low, column_slot, column_to, counts_as, high_by, low_by, may_target_by, mirror_from, mirror_left, mirror_right, mirror_to, slot_by, whole_from, whole_slot, whole_to}
use Rattle.worlds.specs.declared.Lines.{Lines}
use Rattle.worlds.specs.Coherent.{Slotted}
use Rattle.worlds.specs.Kept.{Sheet}
use Rattle.worlds.specs.Lined.{column_at, mirror_at, whole_at}

-- ---- types

-- an object of type t can have a value for each attribute: its declarations do not disagree
unfoldable pub possible : Diagram → ℕ → Bool
possible d t = all (λ s. not (eqb (due d t s) 255)) 32

-- the types that an object can have
pub record UsableTypes (d : Diagram) (usable : ℕ) : Type 0 where
  pub at : (t : ℕ) → bit t usable ≡ both (ltb t (length d.types)) (both (is_concrete (type_at d t)) (possible d t))

module _ (old d : Diagram) where
  -- a singleton class of d has the name of old's type t
  unfoldable pub single_by : ℕ → Bool
  single_by t = any (λ i. both (is_singleton (type_at d i)) (eqb (type_index old (type_at d i).name) t)) (length d.types)

  -- a singleton class of d has a name that no type of old has
  unfoldable pub single_missing : Bool
  single_missing = single_by (length old.types)

  -- d asks an object of type t for links of a role for which old has no slot
  unfoldable pub links_missing : ℕ → Bool
  links_missing t =
      any (λ e. both (carried_to d e) (both (leb 32 (slot_by old d e)) (both (counts_as old d (end_at d (opposite d e)).type t) (ltb 0 (end_at d e).limits.low)))) (role_count d)

pub record SingleTypes (old d : Diagram) (singles : ℕ) : Type 0 where
  pub at : (t : ℕ) → t < length old.types → bit t singles ≡ single_by old d t
  pub none : (t : ℕ) → length old.types ≤ t → bit t singles ≡ false

pub record MissingLinks (old d : Diagram) (mask : ℕ) : Type 0 where
  pub at : (t : ℕ) → t < length old.types → bit t mask ≡ links_missing old d t

-- ---- rows: at t * 32 + s for type t and slot s

pub record RowTables (old d : Diagram) (targets lows highs : List ℕ) : Type 0 where
  pub target_is : (t s u : ℕ) → t < length old.types → s < 32 → u < length old.types → bit u (get_or targets (t * 32 + s) 0) ≡ may_target_by old d t s u
  pub low-is : (t s : ℕ) → t < length old.types → s < 32 → get_or lows (t * 32 + s) 0 ≡ low_by old d t s
  pub high_is : (t s : ℕ) → t < length old.types → s < 32 → get_or highs (t * 32 + s) 0 ≡ high_by old d t s

-- ---- associations

pub record LinesOf (old d : Diagram) (x : Lines) : Type 0 where
  pub column-slot : (j : ℕ) → j < 16 → (column_at x j).slot ≡ column_slot old d j
  pub column-from : (j t : ℕ) → j < 16 → t < length old.types → bit t (column_at x j).from ≡ column_from old d j t
  pub column-to : (j t : ℕ) → j < 16 → t < length old.types → bit t (column_at x j).to ≡ column_to old d j t
  pub column-low : (j : ℕ) → j < 16 → (column_at x j).low ≡ column_low old d j
  pub column-high : (j : ℕ) → j < 16 → (column_at x j).high ≡ column_high old d j
  pub mirror-right : (j : ℕ) → j < 16 → (mirror_at x j).right ≡ mirror_right old d j
  pub mirror-left : (j : ℕ) → j < 16 → (mirror_at x j).left ≡ mirror_left old d j
  pub mirror-from : (j t : ℕ) → j < 16 → t < length old.types → bit t (mirror_at x j).from ≡ mirror_from old d j t
  pub mirror-to : (j t : ℕ) → j < 16 → t < length old.types → bit t (mirror_at x j).to ≡ mirror_to old d j t
  pub whole-slot : (j : ℕ) → j < 16 → (whole_at x j).slot ≡ whole_slot old d j
  pub whole-from : (j t : ℕ) → j < 16 → t < length old.types → bit t (whole_at x j).from ≡ whole_from old d j t
  pub whole-to : (j t : ℕ) → j < 16 → t < length old.types → bit t (whole_at x j).to ≡ whole_to old d j t

-- ---- the diagram's own, all together

pub record SheetOf (old : Diagram) (x : Sheet) : Type 0 where
  pub few : length old.types ≤ 24
  pub usable : UsableTypes old x.usable
  pub singles : SingleTypes old old x.singles
  pub rows : RowTables old old x.targets x.lows x.highs
  pub lines : LinesOf old old x.lines
  pub slotted : Slotted x.lines
