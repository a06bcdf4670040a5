-- Slots: where a record in memory keeps what belongs to a name of the diagram. A slot is a declaration's index, and a name's
-- slot is its first declaration; a later declaration of the same name is a slot that stays empty.
-- Assumes nothing.
use Rattle.std.specs.Prelude.{◌%◌, ◌*◌, ◌/◌, ℕ, Bool, cond, [], eqb, ltb, get_or, length}
use Rattle.laws.specs.Bounded.{first}
use Rattle.laws.specs.Connective.{both, either}
use Rattle.files.specs.Diagram.{Diagram, ValueType, association_at, attribute_at, type_at, value_type_at}
use Rattle.files.specs.Name.{Name, same_name}

-- ---- types

-- the type of this name, or the number of types
unfoldable pub type_index : Diagram → Name → ℕ
type_index d w = first (λ i. same_name (type_at d i).name w) (length d.types)

-- ---- attributes

-- the first attribute of this name, or the number of attributes
unfoldable pub attribute_slot : Diagram → Name → ℕ
attribute_slot d w = first (λ s. same_name (attribute_at d s).name w) (length d.attributes)

-- slot s is its name's own
unfoldable pub own_attribute : Diagram → ℕ → Bool
own_attribute d s = both (ltb s (length d.attributes)) (eqb (attribute_slot d (attribute_at d s).name) s)

-- ---- roles: end e is the left end of association e / 2 where e is even, else its right end

abbrev pub role_count : Diagram → ℕ
role_count d = length d.associations * 2

unfoldable pub role_name : Diagram → ℕ → Name
role_name d e = cond (eqb (e % 2) 0) (association_at d (e / 2)).left.role (association_at d (e / 2)).right.role

-- the first end with this role name, or the number of ends
unfoldable pub role_slot : Diagram → Name → ℕ
role_slot d w = first (λ e. same_name (role_name d e) w) (role_count d)

unfoldable pub own_role : Diagram → ℕ → Bool
own_role d e = both (ltb e (role_count d)) (eqb (role_slot d (role_name d e)) e)

-- ---- values: code k is constant k % 8 of value type k / 8; a plain type has its unnamed value at 0

unfoldable pub is_constant : ValueType → ℕ → Name → Bool
is_constant v i c =
    either (both (ltb i (length v.constants)) (same_name (get_or v.constants i []) c))
    (both (eqb (length v.constants) 0) (both (eqb i 0) (eqb (length c) 0)))

unfoldable pub is_code : Diagram → Name → Name → ℕ → Bool
is_code d t c k =
    both (ltb (k / 8) (length d.value_types))
    (both (same_name (value_type_at d (k / 8)).name t) (is_constant (value_type_at d (k / 8)) (k % 8) c))

-- the code of a value type's name and a constant's, or 96
unfoldable pub code_of : Diagram → Name → Name → ℕ
code_of d t c = first (is_code d t c) 96
