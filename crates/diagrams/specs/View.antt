-- What a diagram in memory says: the diagram that its arrays stand for.
-- Assumes nothing.
use Rattle.std.specs.Prelude.{ℕ, ◌+◌, ◌*◌, cond, List, eqb, get_or}
use Rattle.laws.specs.Lists.{listed}
use Rattle.fields.specs.Slot.{slot_name}
use Rattle.files.specs.Diagram.{ValueType, TypeDef, Attribute, Upper, at_most, no_limit, End, Association, Diagram}
use Rattle.diagrams.specs.declared.ValueTypes.{ValueTypes}
use Rattle.diagrams.specs.declared.Types.{Types}
use Rattle.diagrams.specs.declared.Attributes.{Attributes}
use Rattle.diagrams.specs.declared.Associations.{Associations}
use Rattle.diagrams.specs.declared.StoredDiagram.{StoredDiagram}

unfoldable pub value_type_in : ValueTypes → ℕ → ValueType
value_type_in v i = record { name = slot_name v.names i; constants = listed (λ k. slot_name v.constants (i * 8 + k)) (get_or v.sizes i 0) }

unfoldable pub value_types_of : ValueTypes → List ValueType
value_types_of v = listed (value_type_in v) v.count

unfoldable pub type_in : Types → ℕ → TypeDef
type_in t i = record { kind = get_or t.kinds i 0; name = slot_name t.names i; parents = listed (λ s. get_or t.parents (i * 4 + s) 0) (get_or t.sizes i 0) }

unfoldable pub types_of : Types → List TypeDef
types_of t = listed (type_in t) t.count

unfoldable pub attribute_in : Attributes → ℕ → Attribute
attribute_in a i = record { owner = get_or a.owners i 0; name = slot_name a.names i; value_type = get_or a.types i 0 }

unfoldable pub attributes_of : Attributes → List Attribute
attributes_of a = listed (attribute_in a) a.count

-- 65,535 is no upper limit
unfoldable pub upper_in : ℕ → Upper
upper_in up = cond (eqb up 65535) no_limit (at_most up)

unfoldable pub end_in : Associations → ℕ → End
end_in a e = record { type = get_or a.types e 0; limits = record { low = get_or a.lows e 0; up = upper_in (get_or a.ups e 0) }; role = slot_name a.roles e }

unfoldable pub association_in : Associations → ℕ → Association
association_in a i = record { form = get_or a.forms i 0; arrow = get_or a.arrows i 0; left = end_in a (i * 2); right = end_in a (i * 2 + 1) }

unfoldable pub associations_of : Associations → List Association
associations_of a = listed (association_in a) a.count

unfoldable pub diagram_of : StoredDiagram → Diagram
diagram_of d = record {
  value_types = value_types_of d.values;
  types = types_of d.types;
  attributes = attributes_of d.attributes;
  associations = associations_of d.associations;
}
