-- What each field that is not refused keeps: the refusals 4 and 6 that it passed say that what it names has a place.
-- Assumes nothing.
use Prim.Native.Nat.{◌*◌, ◌<◌, ◌≤◌, ℕ}
use native.Mathlib.Omega.{arith}
use mathlib.Core.List.{List}
use mathlib.Core.Path.{◌∙◌, ◌≡◌, ap, ap₂, subst, sym}
use lib.ListN.{length}
use borrow.Author.Tests.{leb-false, leb-true, ltb-true, ne_eqb, not-false}
use Rattle.fields.specs.Slot.{slot_of}
use Rattle.laws.specs.Bounded.{first}
use Rattle.laws.proofs.ConnectiveLaws.{both_left, both_right, refuse-passed}
use Rattle.files.specs.Content.{byte, name_in}
use Rattle.files.specs.Record.{Record, object_count}
use Rattle.files.specs.RecordFile.{count_refusal, link_refusal, object_refusal, record_refusal, record_with, value_refusal, with_link}
use Rattle.files.specs.RecordLayout.{count_laid, link_of, value_of}
use Rattle.files.specs.Refusal.{full}
use Rattle.diagrams.proofs.NamedLaws.{role-count}
use Rattle.diagrams.specs.declared.StoredDiagram.{StoredDiagram}
use Rattle.diagrams.specs.View.{diagram_of}
use Rattle.diagrams.specs.Held.{Counts}
use Rattle.diagrams.proofs.ViewLaws.{attribute-count}
use Rattle.records.specs.declared.MemoryRecord.{MemoryRecord}
use Rattle.records.specs.Slots.{attribute_slot, role_count}
use Rattle.resolving.specs.Lookup.{is_code_in}
use Rattle.resolving.specs.Stored.{StandsSoFar, Takes, link_stored, value_stored, with_type}
use Rattle.resolving.proofs.LookupLaws.{attribute-slot, code-of, role-slot, type-index}
use Rattle.resolving.proofs.LinkLaws.{link-stands}
use Rattle.resolving.proofs.StoreLaws.{object-stands}
use Rattle.resolving.proofs.ValueLaws.{value-stands}

-- ---- what a field that is not refused names is below the count

module _ (last count : ℕ) (r : Record) (c : List ℕ) where
  pub count-few : record_refusal last count r 0x60 c ≡ 0 → byte c 0 ≤ 8
  unfolding record_refusal count_refusal count_laid
  count-few e = leb-true (byte c 0) 8 (both_right _ _ (not-false (count_laid c) (refuse-passed _ 2 _ (refuse-passed _ 1 _ e).1).0))

  object-room : record_refusal last count r 0x61 c ≡ 0 → object_count r < count
  unfolding record_refusal object_refusal full object_count
  object-room e = leb-false count (length r.objects) (refuse-passed _ 3 _ (refuse-passed _ 1 _ e).1).0

  value-below : record_refusal last count r 0x62 c ≡ 0 → (value_of c).object < count
  unfolding record_refusal value_refusal
  value-below e =
      ltb-true (value_of c).object count
      (not-false _ (refuse-passed _ 5 _ (refuse-passed _ 4 _ (refuse-passed _ 2 _ (refuse-passed _ 3 _ (refuse-passed _ 1 _ e).1).1).1).1).0)

  link-below : link_refusal count r c ≡ 0 → ((link_of c).from < count) × ((link_of c).to < count)
  unfolding link_refusal
  link-below e =
      let h = not-false _ (refuse-passed _ 5 _ (refuse-passed _ 4 _ (refuse-passed _ 2 _ (refuse-passed _ 3 _ e).1).1).1).0 in
      (ltb-true _ _ (both_left _ _ h), ltb-true _ _ (both_right _ _ h))

  -- a tag that is none of the other three is a link's
  module _ (t : ℕ) (n60 : t ≡ 0x60 → ⊥) (n61 : t ≡ 0x61 → ⊥) (n62 : t ≡ 0x62 → ⊥) where
    link-refusal : record_refusal last count r t c ≡ 0 → link_refusal count r c ≡ 0
    unfolding record_refusal
    link-refusal e = rw (ne_eqb t 0x60 n60, ne_eqb t 0x61 n61, ne_eqb t 0x62 n62) at (refuse-passed _ 1 _ e).1

    link-with : record_with r t c ≡ with_link r (link_of c)
    unfolding record_with
    link-with = rw (ne_eqb t 0x60 n60, ne_eqb t 0x61 n61, ne_eqb t 0x62 n62)

-- ---- each tag

module _ (d : StoredDiagram) (m n : MemoryRecord) (t : ℕ) (c : List ℕ) where
  pub count-takes : t ≡ 0x60 → Takes (diagram_of d) t c m m
  unfolding record_with
  count-takes e = subst (λ (x : ℕ). Takes (diagram_of d) x c m m) (sym e) (record { more = λ last count r few st ok. st })

  pub object-takes : t ≡ 0x61 → length m.types ≡ 8 → (m.count < 8 → n ≡ with_type m (slot_of d.types.names d.types.count (name_in c)))
      → Takes (diagram_of d) t c m n
  unfolding record_with
  object-takes e long f =
      subst (λ (x : ℕ). Takes (diagram_of d) x c m n) (sym e)
      (record {
        more = λ last count r few st ok.
            let l : object_count r < count = object-room last count r c ok in
            let k : m.count ≡ object_count r = st.count in
            let h : m.count < 8 = omega arith in
            subst (StandsSoFar (diagram_of d) (record_with r 0x61 c)) (sym (f h ∙ ap (with_type m) (sym (type-index d (name_in c)))))
            (object-stands (diagram_of d) r m st (name_in c) h long);
      })

  pub value-takes : t ≡ 0x62 → Counts d → length m.values ≡ 256 → {code : ℕ}
      → code ≡ first (is_code_in d.values.names d.values.sizes d.values.constants d.values.count (value_of c).value_type (value_of c).constant) 96
      → ((value_of c).object < 8
      → n ≡ value_stored m (slot_of d.attributes.names d.attributes.count (value_of c).attribute) d.attributes.count (value_of c).object code)
      → Takes (diagram_of d) t c m n
  unfolding record_with
  value-takes e counts long {code} q f =
      subst (λ (x : ℕ). Takes (diagram_of d) x c m n) (sym e)
      (record {
        more = λ last count r few st ok.
            let l : (value_of c).object < count = value-below last count r c ok in
            let h : (value_of c).object < 8 = omega arith in
            let fits : length (diagram_of d).attributes ≤ 32 = omega (arith, attribute-count d, counts.attributes) in
            subst (StandsSoFar (diagram_of d) (record_with r 0x62 c))
            (sym (f h ∙ ap₂ (λ (s k : ℕ). value_stored m s k (value_of c).object code) (sym (attribute-slot d (value_of c).attribute)) (sym (attribute-count d))
            ∙ ap (value_stored m (attribute_slot (diagram_of d) (value_of c).attribute) (length (diagram_of d).attributes) (value_of c).object)
            (q ∙ sym (code-of d (value_of c).value_type (value_of c).constant))))
            (value-stands (diagram_of d) r m st (value_of c) fits h long);
      })

  pub link-takes : (t ≡ 0x60 → ⊥) → (t ≡ 0x61 → ⊥) → (t ≡ 0x62 → ⊥) → Counts d → length m.links ≡ 256
      → ((link_of c).from < 8 → (link_of c).to < 8
      → n ≡ link_stored m (slot_of d.associations.roles (d.associations.count * 2) (link_of c).role) (d.associations.count * 2) (link_of c).from (link_of c).to)
      → Takes (diagram_of d) t c m n
  link-takes n60 n61 n62 counts long f = record {
    more = λ last count r few st ok.
        let b = link-below last count r c (link-refusal last count r c t n60 n61 n62 ok) in
        let h : (link_of c).from < 8 = omega (arith, b.0) in
        let g : (link_of c).to < 8 = omega (arith, b.1) in
        let fits : role_count (diagram_of d) ≤ 32 = omega (arith, role-count d, counts.associations) in
        subst (λ (x : Record). StandsSoFar (diagram_of d) x n) (sym (link-with last count r c t n60 n61 n62))
        (subst (StandsSoFar (diagram_of d) (with_link r (link_of c)))
        (sym (f h g ∙ ap₂ (λ (s k : ℕ). link_stored m s k (link_of c).from (link_of c).to) (sym (role-slot d (link_of c).role)) (sym (role-count d))))
        (link-stands (diagram_of d) r m st (link_of c) fits h long));
  }
