-- 02 1/12: the diagram that a text declares, of the declarations in the order in which they stand.
-- Assumes nothing.
use Rattle.std.specs.Prelude.{◌-◌, ℕ, Bool, not, List, [], ◌++◌, ◌∷◌, eqb, get_or, length}
use Rattle.laws.specs.Bounded.{any, first, tally}
use Rattle.laws.specs.Connective.{both}
use Rattle.laws.specs.Lists.{joined, picked}
use Rattle.files.specs.Diagram.{Association, Attribute, Diagram, End, TypeDef, ValueType}
use Rattle.files.specs.Name.{Name, same_name}
use Rattle.texts.specs.Declaration.{Declaration, DeclaredEnd, declaration_at, is_association, is_enumeration, is_type}

-- ---- types: "the rest by appearance"

-- how many types stand before declaration k: the index of the type that it declares
unfoldable pub types_before : List Declaration → ℕ → ℕ
types_before ds k = tally (λ j. is_type (declaration_at ds j)) k

-- the first declaration of a type with the name w, or the number of declarations
unfoldable pub type_first : List Declaration → Name → ℕ
type_first ds w = first (λ j. both (is_type (declaration_at ds j)) (same_name (declaration_at ds j).name w)) (length ds)

-- the index of that type
unfoldable pub type_index : List Declaration → Name → ℕ
type_index ds w = types_before ds (type_first ds w)

abbrev pub parent_names : Declaration → List Name
parent_names d = d.superclasses ++ d.interfaces

-- "The order of parents on a line does not matter": rising indices, one for each name
unfoldable pub parents_of : List Declaration → ℕ → List ℕ
parents_of ds k =
    let ws = parent_names (declaration_at ds k) in
    joined (λ j. picked (λ i. eqb (type_index ds (get_or ws i [])) j) (λ i. j) (length ws)) (types_before ds k)

abbrev pub type_def_of : List Declaration → ℕ → TypeDef
type_def_of ds k = record { kind = (declaration_at ds k).what; name = (declaration_at ds k).name; parents = parents_of ds k }

-- ---- value types: "enumerations first, then plain types by first use"

unfoldable pub enumerations : List Declaration → List ValueType
enumerations ds = picked (λ k. is_enumeration (declaration_at ds k)) (λ k. record { name = (declaration_at ds k).name; constants = (declaration_at ds k).constants }) (length ds)

unfoldable pub is_enumeration_name : List Declaration → Name → Bool
is_enumeration_name ds w = any (λ k. both (is_enumeration (declaration_at ds k)) (same_name (declaration_at ds k).name w)) (length ds)

-- the types of all attributes, one behind the other
unfoldable pub used_types : List Declaration → List Name
used_types ds = joined (λ k. (declaration_at ds k).attribute_types) (length ds)

-- "An attribute type that is no enumeration declared anywhere in the text is a plain value type": use i is the first of its name
unfoldable pub is_plain_use : List Declaration → ℕ → Bool
is_plain_use ds i =
    both (not (is_enumeration_name ds (get_or (used_types ds) i []))) (not (any (λ j. same_name (get_or (used_types ds) j []) (get_or (used_types ds) i [])) i))

unfoldable pub plain_types : List Declaration → List ValueType
plain_types ds = picked (is_plain_use ds) (λ i. record { name = get_or (used_types ds) i []; constants = [] }) (length (used_types ds))

unfoldable pub value_types_of : List Declaration → List ValueType
value_types_of ds = enumerations ds ++ plain_types ds

-- the first value type with the name w
unfoldable pub value_type_index : List Declaration → Name → ℕ
value_type_index ds w =
    first (λ i. same_name (get_or (value_types_of ds) i (record { name = []; constants = [] })).name w) (length (value_types_of ds))

-- ---- attributes, class by class

abbrev pub attribute_of : List Declaration → ℕ → ℕ → Attribute
attribute_of ds k i =
    record { owner = types_before ds k; name = get_or (declaration_at ds k).attribute_names i []; value_type = value_type_index ds (get_or (declaration_at ds k).attribute_types i []) }

unfoldable pub attributes_in : List Declaration → ℕ → List Attribute
attributes_in ds k = joined (λ i. attribute_of ds k i ∷ []) (length (declaration_at ds k).attribute_types)

-- ---- associations

unfoldable pub end_in : List Declaration → DeclaredEnd → End
end_in ds e = record { type = type_index ds e.type; limits = e.limits; role = e.role }

abbrev pub association_of : List Declaration → ℕ → Association
association_of ds k =
    let d = declaration_at ds k in
    record { form = d.what - 5; arrow = d.arrow; left = end_in ds d.left_end; right = end_in ds d.right_end }

-- ---- the diagram
unfoldable pub declared : List Declaration → Diagram
declared ds =
    record {
      value_types = value_types_of ds;
      types = picked (λ k. is_type (declaration_at ds k)) (type_def_of ds) (length ds);
      attributes = joined (attributes_in ds) (length ds);
      associations = picked (λ k. is_association (declaration_at ds k)) (association_of ds) (length ds);
    }
