-- The view of a diagram in memory, part by part and by index, and the empty diagram.
-- Assumes nothing.
use Prim.Native.Nat.{ℕ, ◌<◌, zero-le}
use native.Mathlib.Omega.{arith}
use mathlib.Core.List.{[]}
use mathlib.Core.Path.{◌≡◌, refl}
use lib.ListN.{length}
use Rattle.laws.specs.Lists.{joined}
use Rattle.laws.proofs.JoinedLaws.{length-each, get_or-each}
use Rattle.files.specs.Diagram.{no_diagram, value_type_at, type_at, attribute_at, association_at, no_end}
use Rattle.diagrams.specs.declared.StoredDiagram.{StoredDiagram}
use Rattle.diagrams.specs.View.{value_type_in, value_types_of, type_in, types_of, attribute_in, attributes_of, association_in, associations_of, diagram_of}
use Rattle.diagrams.specs.Held.{Counts, Sets}
use Rattle.diagrams.specs.Empty.{empty_diagram}

module _ (d : StoredDiagram) where
  pub value-type-count : length (diagram_of d).value_types ≡ d.values.count
  unfolding diagram_of value_types_of
  value-type-count = length-each (value_type_in d.values) (record { name = []; constants = [] }) d.values.count

  pub type-count : length (diagram_of d).types ≡ d.types.count
  unfolding diagram_of types_of
  type-count = length-each (type_in d.types) (record { kind = 0; name = []; parents = [] }) d.types.count

  pub attribute-count : length (diagram_of d).attributes ≡ d.attributes.count
  unfolding diagram_of attributes_of
  attribute-count = length-each (attribute_in d.attributes) (record { owner = 0; name = []; value_type = 0 }) d.attributes.count

  pub association-count : length (diagram_of d).associations ≡ d.associations.count
  unfolding diagram_of associations_of
  association-count = length-each (association_in d.associations) (record { form = 0; arrow = 0; left = no_end; right = no_end }) d.associations.count

  pub value-type-at : (i : ℕ) → i < d.values.count → value_type_at (diagram_of d) i ≡ value_type_in d.values i
  unfolding diagram_of value_types_of
  value-type-at i l = get_or-each (value_type_in d.values) (record { name = []; constants = [] }) d.values.count i l

  pub type-at : (i : ℕ) → i < d.types.count → type_at (diagram_of d) i ≡ type_in d.types i
  unfolding diagram_of types_of
  type-at i l = get_or-each (type_in d.types) (record { kind = 0; name = []; parents = [] }) d.types.count i l

  pub attribute-at : (i : ℕ) → i < d.attributes.count → attribute_at (diagram_of d) i ≡ attribute_in d.attributes i
  unfolding diagram_of attributes_of
  attribute-at i l = get_or-each (attribute_in d.attributes) (record { owner = 0; name = []; value_type = 0 }) d.attributes.count i l

  pub association-at : (i : ℕ) → i < d.associations.count → association_at (diagram_of d) i ≡ association_in d.associations i
  unfolding diagram_of associations_of
  association-at i l = get_or-each (association_in d.associations) (record { form = 0; arrow = 0; left = no_end; right = no_end }) d.associations.count i l

pub empty-view : diagram_of empty_diagram ≡ no_diagram
unfolding diagram_of empty_diagram value_types_of types_of attributes_of associations_of joined
empty-view = refl

pub empty-counts : Counts empty_diagram
unfolding empty_diagram
empty-counts = record { value-types = zero-le; types = zero-le; attributes = zero-le; associations = zero-le }

pub empty-sets : Sets empty_diagram.types
unfolding empty_diagram
empty-sets = record { exact = λ i j l. absurd (omega arith) }
