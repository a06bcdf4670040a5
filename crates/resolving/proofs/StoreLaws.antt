-- A record in memory that stands for a record of names stands for it with an object, a value or a link more once that is
-- stored: at each place the stored row and the equation of `Represents` change alike.
-- Assumes nothing.
use Prim.Native.Nat.{◌*◌, ◌+◌, ◌<◌, suc, zero, ℕ}
use native.Mathlib.Nat.{le_step, lt-suc_self}
use native.Mathlib.Omega.{arith}
use mathlib.Core.Bool.{Bool, cond, false, true}
use mathlib.Core.List.{List, [], ◌∷◌}
use mathlib.Core.Logic.{⊎_elim}
use mathlib.Core.Path.{◌∙◌, ◌≡◌, ap, ap₂, refl, sym}
use lib.ListN.{get_or, get_or-replicate, length, length-append, set}
use lib.Seq.{get_or-set_other, get_or-set_same}
use Rattle.laws.specs.Bits.{bit}
use Rattle.laws.specs.Bounded.{any}
use Rattle.laws.proofs.BitLaws.{bit-zero}
use Rattle.laws.proofs.ListLaws.{snoc-below}
use Rattle.laws.proofs.ConnectiveLaws.{both_false}
use Rattle.files.specs.Diagram.{Diagram, attribute_at}
use Rattle.files.specs.Membership.{has_link}
use Rattle.files.specs.Name.{Name}
use Rattle.files.specs.Record.{Record, Value, no_record, object_count, value_at}
use Rattle.files.specs.RecordFile.{with_object}
use Rattle.records.specs.declared.MemoryRecord.{MemoryRecord}
use Rattle.records.specs.Slots.{code_of, own_attribute, own_role, type_index}
use Rattle.records.specs.Represents.{code_among, link_bit, stray_link, stray_value, value_byte, value_for}
use Rattle.resolving.specs.Stored.{StandsSoFar, with_type}
use Rattle.records.specs.Empty.{empty_record}

-- ---- nothing

pub nothing-stands : (d : Diagram) → StandsSoFar d no_record empty_record
unfolding empty_record object_count value_byte code_among link_bit has_link stray_value stray_link any
nothing-stands d = record {
  count = refl;
  stands = record {
    types = λ o l. absurd (omega arith);
    values = λ o s ho hs. get_or-replicate 256 (o * 32 + s) 0 0 (omega arith) ∙ sym (nothing (own_attribute d s));
    links = λ o s p ho hs hp. ap (bit p) (get_or-replicate 256 (o * 32 + s) 0 0 (omega arith)) ∙ bit-zero p ∙ sym (both_false (own_role d s));
    stray-values = refl;
    stray-links = refl;
  };
}
  where
    nothing : (b : Bool) → ◌≡◌ {A = ℕ} (cond b 0 0) 0
    nothing true = refl
    nothing false = refl

-- ---- values by their last: a record with the same first n values has the same code among them

pub code_same : (d : Diagram) (q r : Record) (o : ℕ) (w : Name) (n : ℕ) → ((i : ℕ) → i < n → value_at q i ≡ value_at r i) → code_among d q o w n ≡ code_among d r o w n
unfolding code_among
code_same d q r o w zero f = refl
code_same d q r o w (suc n) f =
    ap₂ (λ (v : Value) (x : ℕ). cond (value_for v o w) (1 + code_of d v.value_type v.constant) x) (f n (lt-suc_self n))
    (code_same d q r o w n (λ i l. f i (le_step l)))

pub byte-same : (d : Diagram) (q r : Record) (o s : ℕ) → q.values ≡ r.values → value_byte d q o s ≡ value_byte d r o s
unfolding value_byte
byte-same d q r o s e =
    ap (λ (x : ℕ). cond (own_attribute d s) x 0)
    (code_same d q r o (attribute_at d s).name (length q.values) (λ i l. ap (λ (vs : List Value). get_or vs i (record { object = 0; attribute = []; value_type = []; constant = [] })) e)
    ∙ ap (λ (vs : List Value). code_among d r o (attribute_at d s).name (length vs)) e)

-- ---- an object more

module _ (d : Diagram) (q : Record) (m : MemoryRecord) (st : StandsSoFar d q m) where
  pub object-stands : (w : Name) → m.count < 8 → length m.types ≡ 8 → StandsSoFar d (with_object q w) (with_type m (type_index d w))
  unfolding with_object object_count link_bit has_link stray_value stray_link
  object-stands w few long =
      let n : m.count ≡ length q.objects = st.count in
      record {
        count = omega (arith, length-append q.objects (w ∷ []));
        stands = record {
          types = λ o l.
              ⊎_elim
              (λ x.
              let h : o < length q.objects = x.0 in
              get_or-set_other m.types m.count o (type_index d w) 0 (λ e. omega arith) ∙ st.stands.types o h ∙ ap (type_index d) (sym x.1))
              (λ x.
              ap (λ (i : ℕ). get_or (set m.types m.count (type_index d w)) i 0) (x.0 ∙ sym n)
              ∙ get_or-set_same m.types m.count (type_index d w) 0 (omega arith) ∙ ap (type_index d) (sym x.1))
              (snoc-below q.objects w o [] l);
          values = λ o s ho hs. st.stands.values o s ho hs ∙ byte-same d q (with_object q w) o s refl;
          links = st.stands.links;
          stray-values = st.stands.stray-values;
          stray-links = st.stands.stray-links;
        };
      }
