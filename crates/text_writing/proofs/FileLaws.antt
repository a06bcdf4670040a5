-- The pieces of the declarations, tag by tag and one behind the other, are the edition 2 file of the diagram that they declare.
-- Assumes nothing.
use Prim.Native.Nat.{◌+◌, ◌-◌, ◌<◌, ◌≤◌, ℕ}
use native.Mathlib.Omega.{arith}
use mathlib.Core.List.{List, [], ◌++◌, ◌∷◌}
use mathlib.Core.Path.{◌∙◌, ◌≡◌, ap, ap₂, refl, sym}
use lib.ListN.{get_or-map, get_or, length, length-append}
use lib.Seq.{get_or-append-add}
use Rattle.laws.specs.Lists.{joined}
use Rattle.laws.proofs.JoinedLaws.{joined-ext}
use Rattle.laws.proofs.PickedLaws.{joined-picked, length-picked, picked-each}
use Rattle.files.specs.Diagram.{Attribute, ValueType, association_at, attribute_at, no_end, type_at, value_type_at}
use Rattle.files.specs.DiagramBytes.{association_bytes, attribute_bytes, type_bytes, value_type_bytes, write_diagram}
use Rattle.files.specs.Field.{field}
use Rattle.files.specs.Name.{Name}
use Rattle.texts.specs.Declaration.{Declaration, declaration_at, is_association, is_enumeration, is_type}
use Rattle.texts.specs.Declared.{association_of, attribute_of, attributes_in, declared, enumerations, is_plain_use, plain_types, type_def_of, used_types, value_types_of}
use Rattle.text_checks.specs.ValueNames.{value_names}
use Rattle.text_checks.proofs.ValueNamesLaws.{value-names, value-names-length}
use Rattle.text_fields.specs.Fields.{enumeration_of, plain_of}
use Rattle.text_writing.specs.Pieces.{association_piece, attributes_and_associations_part, attributes_piece, declared_part, enumeration_count, enumeration_piece, plain_piece, type_piece, types_to_associations_part, value_types_part}
use Rattle.text_writing.proofs.RowsOfLists.{rows_append, rows-joined, rows-listed, rows_of}

abbrev no_type : ValueType
no_type = record { name = []; constants = [] }

abbrev value_type_field : ValueType → List ℕ
value_type_field v = field 0x20 (value_type_bytes v)

abbrev attribute_field : Attribute → List ℕ
attribute_field a = field 0x40 (attribute_bytes a)

module _ (ds : List Declaration) where
  abbrev plain_count : ℕ
  plain_count = length (plain_types ds)

  enumerations-counted : length (enumerations ds) ≡ enumeration_count ds
  unfolding enumerations enumeration_count
  enumerations-counted = length-picked (λ k. is_enumeration (declaration_at ds k)) (λ k. enumeration_of (declaration_at ds k)) (length ds)

  value-types-split : length (value_types_of ds) ≡ enumeration_count ds + plain_count
  unfolding value_types_of
  value-types-split =
      length-append (enumerations ds) (plain_types ds) ∙ ap (λ (n : ℕ). n + plain_count) enumerations-counted

  -- ---- value types

  enumeration-pieces : rows_of value_type_field no_type (enumerations ds) ≡ joined (enumeration_piece ds) (length ds)
  unfolding enumerations enumeration_piece
  enumeration-pieces =
      joined-picked value_type_field (λ k. is_enumeration (declaration_at ds k)) (λ k. enumeration_of (declaration_at ds k)) no_type (length ds)

  -- a plain type has its name and no constants
  plain-is : (i : ℕ) → i < plain_count → get_or (plain_types ds) i no_type ≡ plain_of (get_or (plain_types ds) i no_type).name
  unfolding plain_types
  plain-is =
      picked-each (λ v. v ≡ plain_of v.name) (is_plain_use ds) (λ i. plain_of (get_or (used_types ds) i [])) no_type (length (used_types ds)) (λ x l o. refl)

  -- its name is collected behind those of the enumerations
  plain-name : (i : ℕ) → get_or (value_names ds) (enumeration_count ds + i) [] ≡ (get_or (plain_types ds) i no_type).name
  unfolding value_types_of
  plain-name i =
      let name : ValueType → Name = λ v. v.name in
      ap (λ (ns : List Name). get_or ns (enumeration_count ds + i) []) (value-names ds) ∙ get_or-map name (value_types_of ds) (enumeration_count ds + i) no_type
      ∙ ap (λ (k : ℕ). (get_or (value_types_of ds) (k + i) no_type).name) (sym enumerations-counted)
      ∙ ap name (get_or-append-add (enumerations ds) (plain_types ds) i no_type)

  plain-pieces : rows_of value_type_field no_type (plain_types ds) ≡ joined (plain_piece (value_names ds) (enumeration_count ds)) plain_count
  unfolding plain_piece
  plain-pieces =
      joined-ext _ _ plain_count (λ i l.
      ap value_type_field (plain-is i l ∙ ap plain_of (sym (plain-name i))))

  plain-counted : plain_count ≡ length (value_names ds) - enumeration_count ds
  plain-counted = omega (arith, value-names-length ds, value-types-split)

  value-type-pieces : rows_of value_type_field no_type (value_types_of ds) ≡ value_types_part ds
  unfolding value_types_of value_types_part
  value-type-pieces =
      rows_append value_type_field no_type (enumerations ds) (plain_types ds)
      ∙ ap₂ (λ (x y : List ℕ). x ++ y) enumeration-pieces (plain-pieces ∙ ap (joined (plain_piece (value_names ds) (enumeration_count ds))) plain-counted)

  value-types : joined (λ i. field 0x20 (value_type_bytes (value_type_at (declared ds) i))) (length (declared ds).value_types) ≡ value_types_part ds
  unfolding declared
  value-types = value-type-pieces

  -- no more names than value types
  pub enumerations-below : enumeration_count ds ≤ length (value_names ds)
  enumerations-below = omega (arith, value-names-length ds, value-types-split)

  -- ---- the others

  type-pieces : joined (λ i. field 0x30 (type_bytes (type_at (declared ds) i))) (length (declared ds).types) ≡ joined (type_piece ds) (length ds)
  unfolding declared type_piece
  type-pieces =
      joined-picked (λ t. field 0x30 (type_bytes t)) (λ k. is_type (declaration_at ds k)) (type_def_of ds) (record { kind = 0; name = []; parents = [] }) (length ds)

  attribute-pieces : joined (λ i. field 0x40 (attribute_bytes (attribute_at (declared ds) i))) (length (declared ds).attributes)
      ≡ joined (attributes_piece ds) (length ds)
  unfolding declared attributes_in attributes_piece
  attribute-pieces =
      let none : Attribute = record { owner = 0; name = []; value_type = 0 } in
      rows-joined attribute_field none (attributes_in ds) (length ds)
      ∙ joined-ext _ _ (length ds) (λ k l. rows-listed attribute_field none (attribute_of ds k) (length (declaration_at ds k).attribute_types))

  association-pieces : joined (λ i. field 0x50 (association_bytes 2 (association_at (declared ds) i))) (length (declared ds).associations)
      ≡ joined (association_piece ds) (length ds)
  unfolding declared association_piece
  association-pieces =
      joined-picked (λ a. field 0x50 (association_bytes 2 a)) (λ k. is_association (declaration_at ds k)) (association_of ds)
      (record { form = 0; arrow = 0; left = no_end; right = no_end }) (length ds)

  -- ---- the file

  pub file-pieces : write_diagram 2 (declared ds) ≡ field 0x10 (2 ∷ []) ++ declared_part ds
  unfolding write_diagram declared_part types_to_associations_part attributes_and_associations_part
  file-pieces =
      ap₂ (λ (v r : List ℕ). field 0x10 (2 ∷ []) ++ (v ++ r)) value-types
      (ap₂ (λ (t r : List ℕ). t ++ r) type-pieces (ap₂ (λ (a s : List ℕ). a ++ s) attribute-pieces association-pieces))
