-- A record in memory that stands for a record of names, and a value more. A name's slot is its own, so the last value for the
-- name stands there; a name without a slot belongs to no place and leaves its mark.
-- Assumes nothing.
use Prim.Native.Nat.{◌*◌, ◌+◌, ◌<◌, ◌≤◌, ℕ}
use native.Mathlib.Omega.{arith}
use mathlib.Core.Bool.{Bool, ◌||◌, cond, false, or-false, true}
use mathlib.Core.List.{[], ◌∷◌}
use mathlib.Core.Path.{◌∙◌, ◌≡◌, ap, ap₂, refl, sym}
use lib.Dec.{eqb, ltb}
use lib.ListN.{get_or-append, length}
use lib.Seq.{get_or-append_seam}
use borrow.Author.Tests.{eq-eqb, eqb-true, ltb-false, ltb-true, ne_eqb}
use Rattle.laws.specs.Connective.{both}
use Rattle.laws.proofs.ConnectiveLaws.{both_false}
use Rattle.laws.proofs.PickedLaws.{any_snoc}
use Rattle.laws.proofs.ListLaws.{length-snoc}
use Rattle.files.specs.Diagram.{Diagram, attribute_at}
use Rattle.files.specs.Membership.{has_link}
use Rattle.files.specs.Name.{Name}
use Rattle.files.specs.Record.{Record, Value, object_count}
use Rattle.files.specs.RecordFile.{with_value}
use Rattle.records.specs.declared.MemoryRecord.{MemoryRecord}
use Rattle.records.specs.Slots.{attribute_slot, code_of, own_attribute}
use Rattle.records.specs.Represents.{code_among, link_bit, stray_link, stray_value, value_byte, value_for}
use Rattle.resolving.specs.Stored.{StandsSoFar, value_stored, with_stray_value, with_value_at}
use Rattle.records.proofs.SlotLaws.{attribute-most, attribute-own, own_below, own_same}
use Rattle.resolving.proofs.PlaceLaws.{set-place}
use Rattle.resolving.proofs.StoreLaws.{code_same}

-- ---- what stands in each place, with a value more

module _ (d : Diagram) (q : Record) (v : Value) where
  abbrev code : ℕ
  code = 1 + code_of d v.value_type v.constant

  code-more : (o : ℕ) (w : Name)
      → code_among d (with_value q v) o w (length (with_value q v).values) ≡ cond (value_for v o w) code (code_among d q o w (length q.values))
  unfolding with_value code_among
  code-more o w =
      let none : Value = record { object = 0; attribute = []; value_type = []; constant = [] } in
      ap (code_among d (with_value q v) o w) (length-snoc q.values v)
      ∙ ap₂ (λ (x : Value) (y : ℕ). cond (value_for x o w) (1 + code_of d x.value_type x.constant) y) (get_or-append_seam q.values v [] none)
      (code_same d (with_value q v) q o w (length q.values) (λ i l. get_or-append q.values (v ∷ []) none i l))

  -- at an own slot the value counts exactly when the slot is its name's; elsewhere nothing does
  byte-own : (o s : ℕ) → own_attribute d s ≡ true
      → value_byte d (with_value q v) o s ≡ cond (both (eqb v.object o) (eqb (attribute_slot d v.attribute) s)) code (value_byte d q o s)
  unfolding value_byte
  byte-own o s h =
      ap₂ (λ (b : Bool) (x : ℕ). cond b x 0) h (code-more o (attribute_at d s).name
      ∙ ap (λ (b : Bool). cond (both (eqb v.object o) b) code (code_among d q o (attribute_at d s).name (length q.values))) (own_same d v.attribute s h))
      ∙ ap (λ (b : Bool). cond (both (eqb v.object o) (eqb (attribute_slot d v.attribute) s)) code (cond b (code_among d q o (attribute_at d s).name (length q.values)) 0)) (sym h)

  byte-none : (r : Record) (o s : ℕ) → own_attribute d s ≡ false → value_byte d r o s ≡ 0
  unfolding value_byte
  byte-none r o s h = ap (λ (b : Bool). cond b (code_among d r o (attribute_at d s).name (length r.values)) 0) h

  byte-kept : (o s : ℕ) → (own_attribute d s ≡ true → eqb (attribute_slot d v.attribute) s ≡ false) → value_byte d (with_value q v) o s ≡ value_byte d q o s
  byte-kept o s f = go (own_attribute d s) refl
    where
      go : (b : Bool) → own_attribute d s ≡ b → value_byte d (with_value q v) o s ≡ value_byte d q o s
      go true h =
          byte-own o s h
          ∙ ap (λ (b : Bool). cond b code (value_byte d q o s)) (ap (both (eqb v.object o)) (f h) ∙ both_false (eqb v.object o))
      go false h = byte-none (with_value q v) o s h ∙ sym (byte-none q o s h)

  byte-hit : (o s : ℕ) → attribute_slot d v.attribute < length d.attributes
      → value_byte d (with_value q v) o s ≡ cond (both (eqb v.object o) (eqb (attribute_slot d v.attribute) s)) code (value_byte d q o s)
  byte-hit o s l = go (eqb (attribute_slot d v.attribute) s) refl
    where
      go : (b : Bool) → eqb (attribute_slot d v.attribute) s ≡ b
          → value_byte d (with_value q v) o s ≡ cond (both (eqb v.object o) (eqb (attribute_slot d v.attribute) s)) code (value_byte d q o s)
      go true e = byte-own o s (ap (own_attribute d) (sym (eqb-true _ _ e)) ∙ attribute-own d v.attribute l)
      go false e =
          byte-kept o s (λ h. e)
          ∙ sym (ap (λ (b : Bool). cond b code (value_byte d q o s)) (ap (both (eqb v.object o)) e ∙ both_false (eqb v.object o)))

  byte-miss : (o s : ℕ) → length d.attributes ≤ attribute_slot d v.attribute → value_byte d (with_value q v) o s ≡ value_byte d q o s
  byte-miss o s l = byte-kept o s (λ h. let k : s < length d.attributes = own_below d s h in ne_eqb (attribute_slot d v.attribute) s (λ e. omega arith))

  stray-more : stray_value d (with_value q v) ≡ stray_value d q || eqb (attribute_slot d v.attribute) (length d.attributes)
  unfolding stray_value with_value
  stray-more =
      any_snoc (λ (x : Value). eqb (attribute_slot d x.attribute) (length d.attributes)) q.values v
      (record { object = 0; attribute = []; value_type = []; constant = [] })

-- ---- the store

module _ (d : Diagram) (q : Record) (m : MemoryRecord) (st : StandsSoFar d q m) (v : Value) where
  abbrev slot : ℕ
  slot = attribute_slot d v.attribute

  value-hit : slot < length d.attributes → length d.attributes ≤ 32 → v.object < 8 → length m.values ≡ 256
      → StandsSoFar d (with_value q v) (with_value_at m (v.object * 32 + slot) (code d q v))
  unfolding object_count with_value link_bit has_link stray_link
  value-hit h few ho long = record {
    count = st.count;
    stands = record {
      types = st.stands.types;
      values = λ o s lo ls.
          set-place m.values v.object slot (code d q v) o s long ho (omega arith) ls
          ∙ ap (λ (x : ℕ). cond (both (eqb v.object o) (eqb slot s)) (code d q v) x) (st.stands.values o s lo ls) ∙ sym (byte-hit d q v o s h);
      links = st.stands.links;
      stray-values =
          st.stands.stray-values ∙ sym (or-false (stray_value d q))
          ∙ ap (λ (b : Bool). stray_value d q || b) (sym (ne_eqb slot (length d.attributes) (λ e. omega arith))) ∙ sym (stray-more d q v);
      stray-links = st.stands.stray-links;
    };
  }

  value-miss : length d.attributes ≤ slot → StandsSoFar d (with_value q v) (with_stray_value m)
  unfolding object_count with_value link_bit has_link stray_link
  value-miss h =
      let l : slot ≤ length d.attributes = attribute-most d v.attribute in
      record {
        count = st.count;
        stands = record {
          types = st.stands.types;
          values = λ o s lo ls. st.stands.values o s lo ls ∙ sym (byte-miss d q v o s h);
          links = st.stands.links;
          stray-values =
              sym (stray-more d q v ∙ ap (λ (b : Bool). stray_value d q || b) (eq-eqb slot (length d.attributes) (omega arith)) ∙ always (stray_value d q));
          stray-links = st.stands.stray-links;
        };
      }
    where
      always : (b : Bool) → b || true ≡ true
      always true = refl
      always false = refl

  pub value-stands : length d.attributes ≤ 32 → v.object < 8 → length m.values ≡ 256
      → StandsSoFar d (with_value q v) (value_stored m slot (length d.attributes) v.object (code_of d v.value_type v.constant))
  unfolding value_stored
  value-stands few ho long = go (ltb slot (length d.attributes)) refl
    where
      go : (b : Bool) → ltb slot (length d.attributes) ≡ b
          → StandsSoFar d (with_value q v) (cond b (with_value_at m (v.object * 32 + slot) (code d q v)) (with_stray_value m))
      go true e = value-hit (ltb-true _ _ e) few ho long
      go false e = value-miss (ltb-false _ _ e)
