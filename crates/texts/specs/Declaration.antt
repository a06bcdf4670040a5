-- 02 1/12: what an item of a text declares, with what is left out filled in.
-- Assumes nothing.
use Rattle.std.specs.Prelude.{◌*◌, ◌+◌, ◌-◌, ℕ, Bool, cond, List, [], ◌∷◌, map, eqb, leb, get_or}
use Rattle.std.proofs.Math.Option.{Option, none, some}
use Rattle.laws.specs.Connective.{both, either}
use Rattle.files.specs.Diagram.{Limits, at_most, no_limit}
use Rattle.files.specs.Name.{Name}
use Rattle.texts.specs.Grammar.{Arrow, Cardinality, Form, Item, Modifier, TextAttribute, TextEnd, Tree, abstract, association, association_item, at_least, between, both_ways, class_item, composition, enum_item, exactly, interface_item, left, many, no-head, plain, right, singleton}

pub record DeclaredEnd : Type 0 where
  pub limits : Limits
  pub type : Name
  pub role : Name

-- What it is: 0 class, 1 abstract class, 2 interface, 3 singleton class, 4 enumeration, 5 association, 6 composition; 7 is none.
-- What does not belong to it is empty.
pub record Declaration : Type 0 where
  pub what : ℕ
  pub name : Name
  pub superclasses : List Name
  pub interfaces : List Name
  pub attribute_types : List Name
  pub attribute_names : List Name
  pub constants : List Name
  pub arrow : ℕ
  pub left_end : DeclaredEnd
  pub right_end : DeclaredEnd

abbrev pub no_limits : Limits
no_limits = record { low = 0; up = no_limit }

abbrev pub nowhere : DeclaredEnd
nowhere = record { limits = no_limits; type = []; role = [] }

abbrev pub nothing : Declaration
nothing = record { what = 7; name = []; superclasses = []; interfaces = []; attribute_types = []; attribute_names = []; constants = []; arrow = 0; left_end = nowhere; right_end = nowhere }

-- ---- numbers

-- the value of a run of digits, behind digits of the value v
unfoldable pub value_from : ℕ → Name → ℕ
value_from v [] = v
value_from v (x ∷ w) = value_from (v * 10 + (x - 0x30)) w

unfoldable pub value : Name → ℕ
value w = value_from 0 w

-- "A cardinality left out is `[*]`; only `*` means no upper limit, an integer never does."
unfoldable pub limits_of : Option Cardinality → Limits
limits_of none = no_limits
limits_of (some many) = no_limits
limits_of (some (exactly n)) = record { low = value n; up = at_most (value n) }
limits_of (some (between n m)) = record { low = value n; up = at_most (value m) }
limits_of (some (at_least n)) = record { low = value n; up = no_limit }

-- ---- roles: "A role left out is the type's name, its first byte lowered if that is a capital."

unfoldable pub lower : ℕ → ℕ
lower b = cond (both (leb 65 b) (leb b 90)) (32 + b) b

unfoldable pub lowered : Name → Name
lowered [] = []
lowered (x ∷ w) = lower x ∷ w

unfoldable pub role_of : Option Name → Name → Name
role_of none type = lowered type
role_of (some w) type = w

unfoldable pub end_of : TextEnd → DeclaredEnd
end_of e = record { limits = limits_of e.cardinality; type = e.type; role = role_of e.role e.type }

-- ---- 01's numbers

-- "0 class, 1 abstract class, .. 3 singleton class"
unfoldable pub kind_of : Modifier → ℕ
kind_of plain = 0
kind_of abstract = 1
kind_of singleton = 3

-- "1 →, 2 ←, 3 ↔, 4 no arrowhead"
unfoldable pub arrow_of : Arrow → ℕ
arrow_of right = 1
arrow_of left = 2
arrow_of both_ways = 3
arrow_of no-head = 4

unfoldable pub form_of : Form → ℕ
form_of association = 5
form_of composition = 6

abbrev pub attributes_of : Option (List TextAttribute) → List TextAttribute
attributes_of none = []
attributes_of (some list) = list

-- ---- declarations

unfoldable pub declaration_of : Item → Declaration
declaration_of (class_item m n supers faces body) =
    record { what = kind_of m; name = n; superclasses = supers; interfaces = faces; attribute_types = map (λ a. a.type) (attributes_of body); attribute_names = map (λ a. a.name) (attributes_of body); constants = []; arrow = 0; left_end = nowhere; right_end = nowhere }
declaration_of (interface_item n supers) =
    record { what = 2; name = n; superclasses = []; interfaces = supers; attribute_types = []; attribute_names = []; constants = []; arrow = 0; left_end = nowhere; right_end = nowhere }
declaration_of (enum_item n constants) =
    record { what = 4; name = n; superclasses = []; interfaces = []; attribute_types = []; attribute_names = []; constants = constants; arrow = 0; left_end = nowhere; right_end = nowhere }
declaration_of (association_item f l a r) =
    record { what = form_of f; name = []; superclasses = []; interfaces = []; attribute_types = []; attribute_names = []; constants = []; arrow = arrow_of a; left_end = end_of l; right_end = end_of r }

unfoldable pub declarations : Tree → List Declaration
declarations t = map declaration_of t.items

-- the one with a number, and `nothing` where there is none
abbrev pub declaration_at : List Declaration → ℕ → Declaration
declaration_at ds k = get_or ds k nothing

unfoldable pub is_type : Declaration → Bool
is_type d = leb d.what 3

unfoldable pub is_interface_type : Declaration → Bool
is_interface_type d = eqb d.what 2

unfoldable pub is_class : Declaration → Bool
is_class d = either (leb d.what 1) (eqb d.what 3)

unfoldable pub is_enumeration : Declaration → Bool
is_enumeration d = eqb d.what 4

unfoldable pub is_association : Declaration → Bool
is_association d = either (eqb d.what 5) (eqb d.what 6)
