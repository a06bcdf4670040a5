-- The first refusal of a field, by its tag: what the parts say is what the whole diagram says.
-- Assumes nothing.
use Prim.Native.Nat.{ℕ}
use mathlib.Core.Bool.{Bool, true, false}
use mathlib.Core.List.{List}
use mathlib.Core.Path.{◌≡◌, refl, sym, ◌∙◌}
use borrow.Author.Tests.{ne_eqb}
use Rattle.laws.specs.Connective.{refuse}
use Rattle.files.specs.DiagramFile.{association_refusal, attribute_refusal, diagram_refusal, diagram_tags, edition_refusal, type_named, type_refusal, value_type_named, value_type_refusal}
use Rattle.files.specs.Refusal.{misplaced}
use Rattle.diagrams.specs.declared.StoredDiagram.{StoredDiagram}
use Rattle.diagrams.specs.Held.{only_types}
use Rattle.diagrams.specs.View.{diagram_of}
use Rattle.diagrams.proofs.ViewLaws.{association-count, attribute-count, type-count, value-type-count}
use Rattle.refusing.specs.Numbers.{association_no, attribute_known, attribute_no, ends_known, only_value_types, whole_right}

value-type-refusal : (d : StoredDiagram) (c : List ℕ) → value_type_refusal (only_value_types d.values) c ≡ value_type_refusal (diagram_of d) c
unfolding value_type_refusal value_type_named diagram_of
value-type-refusal d c = refl

type-refusal : (d : StoredDiagram) (c : List ℕ) → type_refusal (only_types d.types) c ≡ type_refusal (diagram_of d) c
unfolding type_refusal type_named diagram_of
type-refusal d c = refl

attribute-refusal : (d : StoredDiagram) (c : List ℕ) → attribute_no d.values.count d.types.count d.attributes.count c ≡ attribute_refusal (diagram_of d) c
unfolding attribute_no attribute_known attribute_refusal
attribute-refusal d c = rw (value-type-count d, type-count d, attribute-count d)

association-refusal : (e : ℕ) (d : StoredDiagram) (c : List ℕ) → association_no e d.types.count d.associations.count c ≡ association_refusal e (diagram_of d) c
unfolding association_no ends_known whole_right association_refusal
association-refusal e d c = rw (type-count d, association-count d)

module _ (edition : ℕ) (d : StoredDiagram) (last t : ℕ) (c : List ℕ) where
  pub field-misplaced : {m : Bool} → m ≡ misplaced 16 diagram_tags last t → m ≡ true → 2 ≡ diagram_refusal edition last (diagram_of d) t c
  unfolding diagram_refusal refuse
  field-misplaced e h = rw (sym e ∙ h)

  pub field-edition : {m : Bool} {r : ℕ} → m ≡ misplaced 16 diagram_tags last t → m ≡ false → t ≡ 16 → r ≡ edition_refusal edition c
      → r ≡ diagram_refusal edition last (diagram_of d) t c
  unfolding diagram_refusal refuse
  field-edition e h y q = rw (sym e ∙ h, y) q

  pub field-value-type : {m : Bool} {r : ℕ} → m ≡ misplaced 16 diagram_tags last t → m ≡ false → t ≡ 32
      → r ≡ value_type_refusal (only_value_types d.values) c → r ≡ diagram_refusal edition last (diagram_of d) t c
  unfolding diagram_refusal refuse
  field-value-type e h y q = rw (sym e ∙ h, y) (q ∙ value-type-refusal d c)

  pub field-type : {m : Bool} {r : ℕ} → m ≡ misplaced 16 diagram_tags last t → m ≡ false → t ≡ 48
      → r ≡ type_refusal (only_types d.types) c → r ≡ diagram_refusal edition last (diagram_of d) t c
  unfolding diagram_refusal refuse
  field-type e h y q = rw (sym e ∙ h, y) (q ∙ type-refusal d c)

  pub field-attribute : {m : Bool} {r : ℕ} → m ≡ misplaced 16 diagram_tags last t → m ≡ false → t ≡ 64
      → r ≡ attribute_no d.values.count d.types.count d.attributes.count c → r ≡ diagram_refusal edition last (diagram_of d) t c
  unfolding diagram_refusal refuse
  field-attribute e h y q = rw (sym e ∙ h, y) (q ∙ attribute-refusal d c)

  pub field-association : {m : Bool} {r : ℕ} → m ≡ misplaced 16 diagram_tags last t → m ≡ false → (t ≡ 16 → ⊥) → (t ≡ 32 → ⊥) → (t ≡ 48 → ⊥) → (t ≡ 64 → ⊥)
      → r ≡ association_no edition d.types.count d.associations.count c → r ≡ diagram_refusal edition last (diagram_of d) t c
  unfolding diagram_refusal refuse
  field-association e h n o p s q = rw (sym e ∙ h, ne_eqb t 16 n, ne_eqb t 32 o, ne_eqb t 48 p, ne_eqb t 64 s) (q ∙ association-refusal edition d c)
