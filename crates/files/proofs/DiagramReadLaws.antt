-- The file of a diagram that is as 4, 3, 6 and 7 ask is read as it is, but for 5 and then 8: value types and types are read first, and are
-- refused with 5 alone; then attributes, which are not refused, and associations, with 8 alone.
-- Assumes nothing.
use Prim.Native.Nat.{◌≤◌, ℕ}
use native.Mathlib.Omega.{arith}
use mathlib.Core.Bool.{Bool, false, true}
use mathlib.Core.List.{List, [], ◌++◌, ◌∷◌, append-nil}
use mathlib.Core.Path.{◌∙◌, ◌≡◌, ap, ap₂, refl, subst, sym}
use lib.ListN.{length}
use lib.Seq.{take-length}
use borrow.Author.Tests.{ne_eqb}
use Rattle.laws.specs.Bounded.{any}
use Rattle.laws.specs.Connective.{both, either, refuse}
use Rattle.laws.specs.Lists.{joined}
use Rattle.files.specs.Diagram.{Association, Attribute, Diagram, TypeDef, ValueType, association_at, attribute_at, no_diagram, type_at, value_type_at}
use Rattle.files.specs.DiagramBytes.{association_bytes, attribute_bytes, type_bytes, value_type_bytes, write_diagram}
use Rattle.files.specs.DiagramFile.{diagram_from, diagram_refusal, diagram_with, edition_in, edition_refusal, read_diagram}
use Rattle.files.specs.DiagramLayout.{edition_laid}
use Rattle.files.specs.Field.{end, field, rows}
use Rattle.files.specs.Limit.{Edition}
use Rattle.files.specs.Refusal.{accepted, misplaced, or_refused}
use Rattle.laws.proofs.BoundedLaws.{any_none}
use Rattle.files.proofs.DiagramFieldLaws.{association-refusal, association-with, associations_to, attribute-refusal, attribute-with, attributes_to, twice_in_type, twice_in_value_type, type-refusal, type-with, types_to, value-type-refusal, value-type-with, value_types_to, whole_right}
use Rattle.files.proofs.EndLaws.{by-edition}
use Rattle.files.proofs.FieldLaws.{rows-nothing}
use Rattle.files.proofs.FieldRowLaws.{Reads, behind, fields, first_of, step}
use Rattle.files.proofs.LaidDiagram.{KnownIndices, LaidDiagram}

-- the order of the refusals
first-refusals : (a b c : Bool) → first_of (refuse a 5 0) (first_of (refuse b 5 0) (first_of (refuse false 5 0) (refuse c 8 0))) ≡ refuse (either a b) 5 (refuse c 8 0)
unfolding refuse either
first-refusals true b c = refl
first-refusals false true c = refl
first-refusals false false c = refl

first-refusal : (e : ℕ) → Edition e → diagram_refusal e 0 no_diagram 0x10 (e ∷ []) ≡ 0
first-refusal = by-edition (λ e. diagram_refusal e 0 no_diagram 0x10 (e ∷ []) ≡ 0) one two
  where
    one : diagram_refusal 1 0 no_diagram 0x10 (1 ∷ []) ≡ 0
    one = unfold diagram_refusal misplaced edition_refusal edition_laid both either any refuse in refl

    two : diagram_refusal 2 0 no_diagram 0x10 (2 ∷ []) ≡ 0
    two = unfold diagram_refusal misplaced edition_refusal edition_laid both either any refuse in refl

at-end : (e : ℕ) (d : Diagram) (tag : ℕ) → 1 ≤ tag → diagram_from e tag d end ≡ accepted d
unfolding diagram_from
at-end e d tag h = rw (ne_eqb tag 0 (λ q. let z : tag ≡ 0 = q in omega arith))

-- a name stands twice in a value type or in a type, or parents of a type do not rise
abbrev pub diagram_has_twice : Diagram → Bool
diagram_has_twice d = either (any (twice_in_value_type d) (length d.value_types)) (any (twice_in_type d) (length d.types))

-- some composition has arrow 2
abbrev pub diagram_has_whole_right : Diagram → Bool
diagram_has_whole_right d = any (whole_right d) (length d.associations)

-- a file says its edition
pub edition-of : (e : ℕ) (d : Diagram) → edition_in (write_diagram e d) ≡ e
unfolding write_diagram field
edition-of e d = refl

module _ (e : ℕ) (is-edition : Edition e) (d : Diagram) (laid : LaidDiagram e d) (known : KnownIndices d) where
  abbrev value_type_fields : List ℕ
  value_type_fields = joined (λ i. field 0x20 (value_type_bytes (value_type_at d i))) (length d.value_types)

  abbrev type_fields : List ℕ
  type_fields = joined (λ i. field 0x30 (type_bytes (type_at d i))) (length d.types)

  abbrev attribute_fields : List ℕ
  attribute_fields = joined (λ i. field 0x40 (attribute_bytes (attribute_at d i))) (length d.attributes)

  abbrev association_fields : List ℕ
  association_fields = joined (λ i. field 0x50 (association_bytes e (association_at d i))) (length d.associations)

  abbrev value_types_refusal : ℕ
  value_types_refusal = refuse (any (twice_in_value_type d) (length d.value_types)) 5 0

  abbrev types_refusal : ℕ
  types_refusal = refuse (any (twice_in_type d) (length d.types)) 5 0

  abbrev associations_refusal : ℕ
  associations_refusal = refuse (diagram_has_whole_right d) 8 0

  value-types : (tag : ℕ) → 1 ≤ tag → tag ≤ 0x10 → Reads e tag no_diagram value_type_fields 0x20 value_types_refusal (types_to d 0)
  value-types tag h m =
      subst (Reads e tag no_diagram value_type_fields 0x20 value_types_refusal)
      (ap (λ (xs : List ValueType). record { value_types = xs; types = []; attributes = []; associations = [] }) (take-length d.value_types))
      (fields e 0x20 4 (λ i. value_type_bytes (value_type_at d i)) (value_types_to d) (twice_in_value_type d) tag h (omega arith)
      (length d.value_types) (value-type-refusal d e laid) (value-type-with d e))

  types : (tag : ℕ) → 1 ≤ tag → tag ≤ 0x20 → Reads e tag (types_to d 0) type_fields 0x30 types_refusal (attributes_to d 0)
  types tag h m =
      subst (Reads e tag (types_to d 0) type_fields 0x30 types_refusal)
      (ap (λ (xs : List TypeDef). record { value_types = d.value_types; types = xs; attributes = []; associations = [] }) (take-length d.types))
      (fields e 0x30 4 (λ i. type_bytes (type_at d i)) (types_to d) (twice_in_type d) tag h (omega arith)
      (length d.types) (type-refusal d e laid known) (type-with d e))

  attributes : (tag : ℕ) → 1 ≤ tag → tag ≤ 0x30 → Reads e tag (attributes_to d 0) attribute_fields 0x40 (refuse false 5 0) (associations_to d 0)
  attributes tag h m =
      subst (λ (b : Bool). Reads e tag (attributes_to d 0) attribute_fields 0x40 (refuse b 5 0) (associations_to d 0))
      (any_none (λ i. false) (length d.attributes) (λ i l. refl))
      (subst (Reads e tag (attributes_to d 0) attribute_fields 0x40 (refuse (any (λ i. false) (length d.attributes)) 5 0))
      (ap (λ (xs : List Attribute). record { value_types = d.value_types; types = d.types; attributes = xs; associations = [] }) (take-length d.attributes))
      (fields e 0x40 4 (λ i. attribute_bytes (attribute_at d i)) (attributes_to d) (λ i. false) tag h (omega arith)
      (length d.attributes) (λ k l q t g n. attribute-refusal d e laid known k l t g n ∙ none) (attribute-with d e)))
    where
      none : 0 ≡ refuse false 5 0
      none = unfold refuse in refl

  associations : (tag : ℕ) → 1 ≤ tag → tag ≤ 0x40 → Reads e tag (associations_to d 0) association_fields 0x50 associations_refusal d
  associations tag h m =
      subst (Reads e tag (associations_to d 0) association_fields 0x50 associations_refusal)
      (ap (λ (xs : List Association). record { value_types = d.value_types; types = d.types; attributes = d.attributes; associations = xs }) (take-length d.associations))
      (fields e 0x50 7 (λ i. association_bytes e (association_at d i)) (associations_to d) (whole_right d) tag h (omega arith)
      (length d.associations) (association-refusal d e is-edition laid known) (association-with d e is-edition laid))

  all-fields : Reads e 0x10 no_diagram (value_type_fields ++ (type_fields ++ (attribute_fields ++ association_fields))) 0x50
      (first_of value_types_refusal (first_of types_refusal (first_of (refuse false 5 0) associations_refusal))) d
  all-fields =
      behind e 0x10 no_diagram value_type_fields 0x20 _ (types_to d 0) _ 0x50 _ d (value-types 0x10 (omega arith) (omega arith)) (λ t h m.
      behind e t (types_to d 0) type_fields 0x30 _ (attributes_to d 0) _ 0x50 _ d (types t h m) (λ u i n.
      behind e u (attributes_to d 0) attribute_fields 0x40 _ (associations_to d 0) _ 0x50 _ d (attributes u i n) associations))

  from_start : diagram_from e 0 no_diagram (rows (write_diagram e d)) ≡ or_refused (refuse (diagram_has_twice d) 5 (refuse (diagram_has_whole_right d) 8 0)) (accepted d)
  unfolding write_diagram diagram_with or_refused
  from_start =
      let b = all-fields in
      let s : List ℕ = value_type_fields ++ (type_fields ++ (attribute_fields ++ association_fields)) in
      step e 0 no_diagram 0x10 (e ∷ []) s
      ∙ ap (λ (n : ℕ). or_refused n (diagram_from e 0x10 no_diagram (rows s))) (first-refusal e is-edition)
      ∙ ap (λ (x : List ℕ). diagram_from e 0x10 no_diagram (rows x)) (sym (append-nil s))
      ∙ b.is []
      ∙ ap₂ or_refused
      (first-refusals (any (twice_in_value_type d) (length d.value_types)) (any (twice_in_type d) (length d.types)) (diagram_has_whole_right d))
      (ap (diagram_from e b.tag d) rows-nothing ∙ at-end e d b.tag b.above)

  pub diagram-read : read_diagram (write_diagram e d) ≡ or_refused (refuse (diagram_has_twice d) 5 (refuse (diagram_has_whole_right d) 8 0)) (accepted d)
  unfolding read_diagram
  diagram-read = ap (λ (x : ℕ). diagram_from x 0 no_diagram (rows (write_diagram e d))) (edition-of e d) ∙ from_start
