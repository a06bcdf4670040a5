-- The fields that one declaration of a text adds to the file of the diagram, by the names of the text's types and value types.
-- Assumes nothing.
use Rattle.std.specs.Prelude.{◌-◌, ◌≤◌, ℕ, false, List, [], ◌≡◌, eqb, get_or, length}
use Rattle.laws.specs.Bounded.{first}
use Rattle.laws.specs.Lists.{joined, picked}
use Rattle.files.specs.Content.{name_bytes}
use Rattle.files.specs.Diagram.{Association, End, TypeDef, ValueType}
use Rattle.files.specs.DiagramBytes.{attribute_bytes}
use Rattle.files.specs.Field.{field}
use Rattle.files.specs.Name.{Name, same_name}
use Rattle.texts.specs.Declaration.{Declaration, DeclaredEnd}
use Rattle.texts.specs.Declared.{parent_names}
use Rattle.texts.specs.TextChecks.{limits_forbidden}

-- the first place of a name, or their number
unfoldable pub place_in : List Name → Name → ℕ
place_in names w = first (λ i. same_name (get_or names i []) w) (length names)

-- 0x20
abbrev pub enumeration_of : Declaration → ValueType
enumeration_of d = record { name = d.name; constants = d.constants }

abbrev pub plain_of : Name → ValueType
plain_of w = record { name = w; constants = [] }

abbrev pub constant_bytes : Declaration → ℕ → List ℕ
constant_bytes d i = name_bytes (get_or d.constants i [])

-- 0x30, of the type with the index own
unfoldable pub parents_by : List Name → ℕ → Declaration → List ℕ
parents_by types own d =
    joined (λ j. picked (λ i. eqb (place_in types (get_or (parent_names d) i [])) j) (λ i. j) (length (parent_names d))) own

-- j, once for each of the first n places that is j
abbrev pub places_at : List ℕ → ℕ → ℕ → List ℕ
places_at places n j = picked (λ i. eqb (get_or places i 0) j) (λ i. j) n

abbrev pub type_by : List Name → ℕ → Declaration → TypeDef
type_by types own d = record { kind = d.what; name = d.name; parents = parents_by types own d }

-- 0x40, attribute i of the type with the index own
unfoldable pub attribute_field : List Name → ℕ → Declaration → ℕ → List ℕ
attribute_field values own d i =
    field 0x40 (attribute_bytes (record { owner = own; name = get_or d.attribute_names i []; value_type = place_in values (get_or d.attribute_types i []) }))

-- 0x50
abbrev pub end_by : List Name → DeclaredEnd → End
end_by types e = record { type = place_in types e.type; limits = e.limits; role = e.role }

abbrev pub association_by : List Name → Declaration → Association
association_by types d = record { form = d.what - 5; arrow = d.arrow; left = end_by types d.left_end; right = end_by types d.right_end }

-- ---- what the writers are given

-- names of at most 16 bytes, counts within 01's limits, limits within a text's range
pub record Roomy (d : Declaration) : Type 0 where
  pub name : length d.name ≤ 16
  pub few-constants : length d.constants ≤ 8
  pub constants : (i : ℕ) → length (get_or d.constants i []) ≤ 16
  pub few-parents : length (parent_names d) ≤ 4
  pub attributes : (i : ℕ) → length (get_or d.attribute_names i []) ≤ 16
  pub left-role : length d.left_end.role ≤ 16
  pub left-limits : limits_forbidden d.left_end.limits ≡ false
  pub right-role : length d.right_end.role ≤ 16
  pub right-limits : limits_forbidden d.right_end.limits ≡ false
