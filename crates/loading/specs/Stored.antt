-- What it means that a field's content is stored: names in slots, and each part of a diagram in memory with one more at its end.
-- Assumes nothing.
use Rattle.std.specs.Prelude.{ℕ, ◌+◌, ◌*◌, ◌<◌, ◌≤◌, true, List, [], ◌∷◌, ◌++◌, ◌≡◌, eqb, get_or, length}
use Rattle.laws.specs.Bits.{bit}
use Rattle.laws.specs.Bounded.{any}
use Rattle.laws.specs.Connective.{either}
use Rattle.fields.specs.Slot.{slot_name}
use Rattle.files.specs.Ancestor.{parent_at, parent_count}
use Rattle.files.specs.Content.{name_in, past_names}
use Rattle.files.specs.DiagramLayout.{association_laid, association_of, attribute_laid, attribute_of, end_of, type_laid, type_of, value_type_laid, value_type_of}
use Rattle.diagrams.specs.declared.ValueTypes.{ValueTypes}
use Rattle.diagrams.specs.declared.Types.{Types}
use Rattle.diagrams.specs.declared.Attributes.{Attributes}
use Rattle.diagrams.specs.declared.Associations.{Associations}
use Rattle.diagrams.specs.Held.{Sets, only_types}
use Rattle.diagrams.specs.View.{associations_of, attributes_of, end_in, types_of, value_types_of}

-- slot i holds the name w, and the slots before it are as they were
pub record NameStored (old : List ℕ) (i : ℕ) (w : List ℕ) (new : List ℕ) : Type 0 where
  pub size : length new ≡ length old
  pub kept : (j : ℕ) → j < i → slot_name new j ≡ slot_name old j
  pub is : slot_name new i ≡ w

-- ---- value types

-- the first n names of c are the constants of value type v
pub record ConstantsStored (old : List ℕ) (v : ℕ) (c : List ℕ) (n : ℕ) (new : List ℕ) : Type 0 where
  pub size : length new ≡ length old
  pub kept : (s : ℕ) → s < v * 8 → slot_name new s ≡ slot_name old s
  pub is : (k : ℕ) → k < n → slot_name new (v * 8 + k) ≡ name_in (past_names k c)

-- what is asked: there is room, the content is on its layout, and no value type has more constants than it has room for
pub record ValueTypeFits (v : ValueTypes) (c : List ℕ) : Type 0 where
  pub room : v.count < 12
  pub laid : value_type_laid c ≡ true
  pub few : (i : ℕ) → i < v.count → get_or v.sizes i 0 ≤ 8

pub record ValueTypeStored (v : ValueTypes) (c : List ℕ) (r : ValueTypes) : Type 0 where
  pub count : r.count ≡ v.count + 1
  pub says : value_types_of r ≡ value_types_of v ++ (value_type_of c ∷ [])

-- ---- types

pub record ParentsStored (old : List ℕ) (t : ℕ) (ps : List ℕ) (new : List ℕ) : Type 0 where
  pub kept : (k : ℕ) → k < t * 4 → get_or new k 0 ≡ get_or old k 0
  pub is : (s : ℕ) → s < length ps → get_or new (t * 4 + s) 0 ≡ get_or ps s 0

-- the set of type t: itself, and all that is in the set of one of its parents
abbrev pub SetOf : List ℕ → ℕ → List ℕ → ℕ → Type 0
SetOf sets t ps m = (j : ℕ) → bit j m ≡ either (eqb t j) (any (λ s. bit j (get_or sets (get_or ps s 0) 0)) (length ps))

pub record TypeFits (t : Types) (c : List ℕ) : Type 0 where
  pub room : t.count < 24
  pub laid : type_laid c ≡ true
  pub few : (i : ℕ) → i < t.count → get_or t.sizes i 0 ≤ 4
  pub known : (s : ℕ) → s < length (type_of c).parents → get_or (type_of c).parents s 0 < t.count
  pub below : (i s : ℕ) → s < parent_count (only_types t) i → parent_at (only_types t) i s < i
  pub sets : Sets t

-- 02 5/12: "join the parents' finished sets". The sets before are as they were, and the one more is its own bit with the sets of its parents.
pub record TypeStored (t : Types) (c : List ℕ) (r : Types) : Type 0 where
  pub count : r.count ≡ t.count + 1
  pub says : types_of r ≡ types_of t ++ (type_of c ∷ [])
  pub finished : (i : ℕ) → i < t.count → get_or r.sets i 0 ≡ get_or t.sets i 0
  pub joined : SetOf t.sets t.count (type_of c).parents (get_or r.sets t.count 0)
  pub sets : Sets r

-- ---- attributes

pub record AttributeFits (a : Attributes) (c : List ℕ) : Type 0 where
  pub room : a.count < 32
  pub laid : attribute_laid c ≡ true

pub record AttributeStored (a : Attributes) (c : List ℕ) (r : Attributes) : Type 0 where
  pub count : r.count ≡ a.count + 1
  pub says : attributes_of r ≡ attributes_of a ++ (attribute_of c ∷ [])

-- ---- associations

-- end e is what c says in that edition, and the ends before it, the forms and the arrows are as they were
pub record EndStored (edition : ℕ) (a : Associations) (e : ℕ) (c : List ℕ) (r : Associations) : Type 0 where
  pub count : r.count ≡ a.count
  pub forms : r.forms ≡ a.forms
  pub arrows : r.arrows ≡ a.arrows
  pub kept : (j : ℕ) → j < e → end_in r j ≡ end_in a j
  pub is : end_in r e ≡ end_of edition c

pub record AssociationFits (edition : ℕ) (a : Associations) (c : List ℕ) : Type 0 where
  pub room : a.count < 16
  pub laid : association_laid edition c ≡ true

pub record AssociationStored (edition : ℕ) (a : Associations) (c : List ℕ) (r : Associations) : Type 0 where
  pub count : r.count ≡ a.count + 1
  pub says : associations_of r ≡ associations_of a ++ (association_of edition c ∷ [])
