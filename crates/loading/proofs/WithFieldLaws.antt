-- A field that is not refused may be stored, and the diagram in memory with it says what the definition says and is held.
-- Assumes nothing.
use Prim.Native.Nat.{ℕ, ◌+◌, ◌*◌, ◌<◌, ◌≤◌}
use native.Mathlib.Omega.{arith}
use mathlib.Core.Bool.{cond}
use mathlib.Core.List.{List, []}
use mathlib.Core.Path.{◌≡◌, sym, ap, subst}
use lib.Dec.{eqb, ltb}
use lib.ListN.{length, get_or}
use borrow.Author.Tests.{eq-eqb, leb-false, ltb-true, ne_eqb, not-false}
use Rattle.laws.proofs.BoundedLaws.{all-at}
use Rattle.laws.proofs.ConnectiveLaws.{refuse-passed}
use Rattle.laws.proofs.JoinedLaws.{length-each}
use Rattle.fields.specs.Slot.{slot_name}
use Rattle.files.specs.Diagram.{Association, Attribute, TypeDef, ValueType}
use Rattle.files.specs.DiagramFile.{association_refusal, attribute_refusal, diagram_refusal, diagram_with, edition_refusal, type_refusal, value_type_refusal, with_association, with_attribute, with_type, with_value_type}
use Rattle.files.specs.DiagramLayout.{type_of}
use Rattle.files.specs.Refusal.{full}
use Rattle.files.specs.WellFormedDiagram.{WfDiagram}
use Rattle.files.proofs.AncestorLaws.{Below, parents-stand-below}
use Rattle.files.proofs.DiagramWellFormed.{keeps}
use Rattle.diagrams.specs.declared.ValueTypes.{ValueTypes}
use Rattle.diagrams.specs.declared.Types.{Types}
use Rattle.diagrams.specs.declared.Attributes.{Attributes}
use Rattle.diagrams.specs.declared.Associations.{Associations}
use Rattle.diagrams.specs.declared.StoredDiagram.{StoredDiagram}
use Rattle.diagrams.specs.Held.{Counts, Held, Sets, only_types}
use Rattle.diagrams.specs.View.{diagram_of, type_in, value_type_in}
use Rattle.diagrams.proofs.ViewLaws.{association-count, attribute-count, type-at, type-count, value-type-at, value-type-count}
use Rattle.loading.specs.Stored.{AssociationFits, AssociationStored, AttributeFits, AttributeStored, TypeFits, TypeStored, ValueTypeFits, ValueTypeStored}
use Rattle.loading.specs.WithField.{FieldPasses, WithField}

-- ---- sizes, by what is well formed

constants-few : (d : StoredDiagram) → WfDiagram (diagram_of d) → (i : ℕ) → i < d.values.count → get_or d.values.sizes i 0 ≤ 8
unfolding value_type_in
constants-few d wf i l =
    let known : i < length (diagram_of d).value_types = omega (arith, value-type-count d) in
    let size : length (value_type_in d.values i).constants ≡ get_or d.values.sizes i 0 =
    length-each (λ k. slot_name d.values.constants (i * 8 + k)) [] (get_or d.values.sizes i 0) in
    let few : length (value_type_in d.values i).constants ≤ 8 =
    subst (λ (x : ValueType). length x.constants ≤ 8) (value-type-at d i l) (wf.value-type i known).few-constants in
    omega arith

parents-few : (d : StoredDiagram) → WfDiagram (diagram_of d) → (i : ℕ) → i < d.types.count → get_or d.types.sizes i 0 ≤ 4
unfolding type_in
parents-few d wf i l =
    let known : i < length (diagram_of d).types = omega (arith, type-count d) in
    let size : length (type_in d.types i).parents ≡ get_or d.types.sizes i 0 =
    length-each (λ s. get_or d.types.parents (i * 4 + s) 0) 0 (get_or d.types.sizes i 0) in
    let few : length (type_in d.types i).parents ≤ 4 =
    subst (λ (x : TypeDef). length x.parents ≤ 4) (type-at d i l) (wf.type i known).few-parents in
    omega arith

parents-below : (d : StoredDiagram) → WfDiagram (diagram_of d) → Below (only_types d.types)
unfolding diagram_of
parents-below d wf = parents-stand-below (diagram_of d) wf

-- ---- what a field that is not refused gives

value-type-fits : (d : StoredDiagram) (c : List ℕ) → Held d → value_type_refusal (diagram_of d) c ≡ 0 → ValueTypeFits d.values c
unfolding value_type_refusal full
value-type-fits d c held e = record {
  room = let room : length (diagram_of d).value_types < 12 = leb-false 12 _ (refuse-passed _ 3 _ e).0 in omega (arith, value-type-count d);
  laid = not-false _ (refuse-passed _ 2 _ (refuse-passed _ 3 _ e).1).0;
  few = constants-few d held.wf;
}

type-fits : (d : StoredDiagram) (c : List ℕ) → Held d → type_refusal (diagram_of d) c ≡ 0 → TypeFits d.types c
unfolding type_refusal full
type-fits d c held e =
    let f3 = (refuse-passed _ 3 _ e).1 in
    let f6 = (refuse-passed _ 4 _ (refuse-passed _ 2 _ f3).1).1 in
    record {
      room = let room : length (diagram_of d).types < 24 = leb-false 24 _ (refuse-passed _ 3 _ e).0 in omega (arith, type-count d);
      laid = not-false _ (refuse-passed _ 2 _ f3).0;
      few = parents-few d held.wf;
      known = λ s l.
          subst (λ (n : ℕ). get_or (type_of c).parents s 0 < n) (type-count d)
          (ltb-true _ _ (all-at (λ s. ltb (get_or (type_of c).parents s 0) (length (diagram_of d).types)) (length (type_of c).parents) (not-false _ (refuse-passed _ 5 _ f6).0) s l));
      below = parents-below d held.wf;
      sets = held.sets;
    }

attribute-fits : (d : StoredDiagram) (c : List ℕ) → attribute_refusal (diagram_of d) c ≡ 0 → AttributeFits d.attributes c
unfolding attribute_refusal full
attribute-fits d c e = record {
  room = let room : length (diagram_of d).attributes < 32 = leb-false 32 _ (refuse-passed _ 3 _ e).0 in omega (arith, attribute-count d);
  laid = not-false _ (refuse-passed _ 2 _ (refuse-passed _ 3 _ e).1).0;
}

association-fits : (edition : ℕ) (d : StoredDiagram) (c : List ℕ) → association_refusal edition (diagram_of d) c ≡ 0 → AssociationFits edition d.associations c
unfolding association_refusal full
association-fits edition d c e = record {
  room = let room : length (diagram_of d).associations < 16 = leb-false 16 _ (refuse-passed _ 3 _ e).0 in omega (arith, association-count d);
  laid = not-false _ (refuse-passed _ 2 _ (refuse-passed _ 3 _ e).1).0;
}

-- ---- by the tag

module _ (edition : ℕ) (d : StoredDiagram) (t : ℕ) (c : List ℕ) (a : FieldPasses edition d t c) where
  by-tag : cond (eqb t 16) (edition_refusal edition c)
      (cond (eqb t 32) (value_type_refusal (diagram_of d) c)
      (cond (eqb t 48) (type_refusal (diagram_of d) c)
      (cond (eqb t 64) (attribute_refusal (diagram_of d) c) (association_refusal edition (diagram_of d) c)))) ≡ 0
  unfolding diagram_refusal
  by-tag = (refuse-passed _ 1 _ a.passed).1

  pub allowed-value-type : t ≡ 32 → ValueTypeFits d.values c
  allowed-value-type y = value-type-fits d c a.held (rw (ne_eqb t 16 (λ h. omega arith), eq-eqb t 32 y) at by-tag)

  pub allowed-type : t ≡ 48 → TypeFits d.types c
  allowed-type y = type-fits d c a.held (rw (ne_eqb t 16 (λ h. omega arith), ne_eqb t 32 (λ h. omega arith), eq-eqb t 48 y) at by-tag)

  pub allowed-attribute : t ≡ 64 → AttributeFits d.attributes c
  allowed-attribute y =
      attribute-fits d c (rw (ne_eqb t 16 (λ h. omega arith), ne_eqb t 32 (λ h. omega arith), ne_eqb t 48 (λ h. omega arith), eq-eqb t 64 y) at by-tag)

  pub allowed-association : (t ≡ 16 → ⊥) → (t ≡ 32 → ⊥) → (t ≡ 48 → ⊥) → (t ≡ 64 → ⊥) → AssociationFits edition d.associations c
  allowed-association n o p q = association-fits edition d c (rw (ne_eqb t 16 n, ne_eqb t 32 o, ne_eqb t 48 p, ne_eqb t 64 q) at by-tag)

  -- what says so, has its counts and its sets, is held
  grown : (r : StoredDiagram) → diagram_of r ≡ diagram_with edition (diagram_of d) t c → Counts r → Sets r.types → WithField edition d t c r
  grown r e counts sets = record {
    says = e;
    held = record { counts = counts; wf = subst WfDiagram (sym e) (keeps edition a.last (diagram_of d) t c a.held.wf a.passed); sets = sets };
  }

  pub grown-edition : t ≡ 16 → WithField edition d t c d
  unfolding diagram_with
  grown-edition y = grown d (rw (eq-eqb t 16 y)) a.held.counts a.held.sets

  pub grown-value-type : (v : ValueTypes) → t ≡ 32 → ValueTypeStored d.values c v
      → WithField edition d t c (record { values = v; types = d.types; attributes = d.attributes; associations = d.associations })
  unfolding diagram_of diagram_with with_value_type
  grown-value-type v y s =
      let old : Counts d = a.held.counts in
      let fits : ValueTypeFits d.values c = allowed-value-type y in
      grown (record { values = v; types = d.types; attributes = d.attributes; associations = d.associations })
      (rw (ne_eqb t 16 (λ h. omega arith), eq-eqb t 32 y)
      (ap (λ (x : List ValueType). record { value_types = x; types = (diagram_of d).types; attributes = (diagram_of d).attributes; associations = (diagram_of d).associations }) s.says))
      (record { value-types = omega (arith, s.count, fits.room); types = old.types; attributes = old.attributes; associations = old.associations }) a.held.sets

  pub grown-type : (v : Types) → t ≡ 48 → TypeStored d.types c v
      → WithField edition d t c (record { values = d.values; types = v; attributes = d.attributes; associations = d.associations })
  unfolding diagram_of diagram_with with_type
  grown-type v y s =
      let old : Counts d = a.held.counts in
      let fits : TypeFits d.types c = allowed-type y in
      grown (record { values = d.values; types = v; attributes = d.attributes; associations = d.associations })
      (rw (ne_eqb t 16 (λ h. omega arith), ne_eqb t 32 (λ h. omega arith), eq-eqb t 48 y)
      (ap (λ (x : List TypeDef). record { value_types = (diagram_of d).value_types; types = x; attributes = (diagram_of d).attributes; associations = (diagram_of d).associations }) s.says))
      (record { value-types = old.value-types; types = omega (arith, s.count, fits.room); attributes = old.attributes; associations = old.associations }) s.sets

  pub grown-attribute : (v : Attributes) → t ≡ 64 → AttributeStored d.attributes c v
      → WithField edition d t c (record { values = d.values; types = d.types; attributes = v; associations = d.associations })
  unfolding diagram_of diagram_with with_attribute
  grown-attribute v y s =
      let old : Counts d = a.held.counts in
      let fits : AttributeFits d.attributes c = allowed-attribute y in
      grown (record { values = d.values; types = d.types; attributes = v; associations = d.associations })
      (rw (ne_eqb t 16 (λ h. omega arith), ne_eqb t 32 (λ h. omega arith), ne_eqb t 48 (λ h. omega arith), eq-eqb t 64 y)
      (ap (λ (x : List Attribute). record { value_types = (diagram_of d).value_types; types = (diagram_of d).types; attributes = x; associations = (diagram_of d).associations }) s.says))
      (record { value-types = old.value-types; types = old.types; attributes = omega (arith, s.count, fits.room); associations = old.associations }) a.held.sets

  pub grown-association : (v : Associations) → (t ≡ 16 → ⊥) → (t ≡ 32 → ⊥) → (t ≡ 48 → ⊥) → (t ≡ 64 → ⊥) → AssociationStored edition d.associations c v
      → WithField edition d t c (record { values = d.values; types = d.types; attributes = d.attributes; associations = v })
  unfolding diagram_of diagram_with with_association
  grown-association v n o p q s =
      let old : Counts d = a.held.counts in
      let fits : AssociationFits edition d.associations c = allowed-association n o p q in
      grown (record { values = d.values; types = d.types; attributes = d.attributes; associations = v })
      (rw (ne_eqb t 16 n, ne_eqb t 32 o, ne_eqb t 48 p, ne_eqb t 64 q)
      (ap (λ (x : List Association). record { value_types = (diagram_of d).value_types; types = (diagram_of d).types; attributes = (diagram_of d).attributes; associations = x }) s.says))
      (record { value-types = old.value-types; types = old.types; attributes = old.attributes; associations = omega (arith, s.count, fits.room) }) a.held.sets
