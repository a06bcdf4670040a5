-- A part of a diagram in memory with one more at its end: what it says is what it said, and the content's.
-- Assumes nothing.
use mathlib.Core.Path.{◌≡◌, refl, sym, ap, ap₂, ◌∙◌, subst}
use mathlib.Core.Bool.{true}
use Prim.Native.Nat.{ℕ, ◌+◌, ◌*◌, ◌≤◌, ◌<◌}
use native.Mathlib.Nat.{le_antisymm}
use native.Mathlib.Omega.{arith}
use mathlib.Core.List.{List, [], ◌∷◌}
use lib.ListN.{length, get_or, drop, set}
use borrow.Author.Count.{below_more}
use borrow.Author.Tests.{leb-true}
use Rattle.laws.specs.Bounded.{all}
use Rattle.laws.specs.Lists.{listed}
use Rattle.laws.proofs.BoundedLaws.{all-at}
use Rattle.laws.proofs.ConnectiveLaws.{both_left, both_right}
use Rattle.laws.proofs.JoinedLaws.{joined-ext, listed_more}
use Rattle.laws.proofs.ListLaws.{set-kept, set_is}
use Rattle.fields.specs.Slot.{slot_name}
use Rattle.files.specs.Content.{byte, name_in, past_name, past_names, starts_name}
use Rattle.files.specs.Diagram.{ValueType}
use Rattle.files.specs.DiagramLayout.{value_type_laid, value_type_of}
use Rattle.diagrams.specs.declared.ValueTypes.{ValueTypes}
use Rattle.diagrams.specs.View.{value_type_in, value_types_of}
use Rattle.loading.specs.Stored.{NameStored, ConstantsStored, ValueTypeFits, ValueTypeStored}
use Rattle.loading.proofs.SlotLaws.{name-short}

-- ---- constants

pub constants-begin : (d : List ℕ) (v : ℕ) (c : List ℕ) → ConstantsStored d v c 0 d
constants-begin d v c = record { size = refl; kept = λ s l. refl; is = λ k l. absurd (omega arith) }

pub constants-next : (d d' d'' : List ℕ) (v i s : ℕ) (c r w : List ℕ) → ConstantsStored d v c i d' → NameStored d' (v * 8 + s) w d'' → s ≡ i → w ≡ name_in r
    → r ≡ past_names i c → ConstantsStored d v c (i + 1) d''
constants-next d d' d'' v i s c r w f g p q e = record {
  size = g.size ∙ f.size;
  kept = λ k l. g.kept k (let m : k < v * 8 + s = omega arith in m) ∙ f.kept k l;
  is = below_more (λ (k : ℕ). slot_name d'' (v * 8 + k) ≡ name_in (past_names k c)) i
      (λ k l. g.kept (v * 8 + k) (let m : v * 8 + k < v * 8 + s = omega arith in m) ∙ f.is k l)
      (ap (λ (k : ℕ). slot_name d'' (v * 8 + k)) (sym p) ∙ g.is ∙ q ∙ ap name_in e);
}

pub constants-done : (d d' : List ℕ) (v n i : ℕ) (c : List ℕ) → i ≤ n → n ≤ i → ConstantsStored d v c i d' → ConstantsStored d v c n d'
constants-done d d' v n i c h l f = subst (λ (k : ℕ). ConstantsStored d v c k d') (le_antisymm h l) f

pub constant-short : (c r w : List ℕ) (n i : ℕ) → all (λ k. starts_name (past_names k c)) n ≡ true → i < n → r ≡ past_names i c → w ≡ name_in r → length w ≤ 16
constant-short c r w n i h l p q =
    subst (λ (x : List ℕ). length x ≤ 16) (sym (q ∙ ap name_in p)) (name-short (past_names i c) (all-at (λ k. starts_name (past_names k c)) n h i l))

-- ---- value types

-- a content on its layout: its name fits a slot, and its constants are at most 8 names
pub value-name-short : (v : ValueTypes) (c : List ℕ) {w : List ℕ} → ValueTypeFits v c → w ≡ name_in c → length w ≤ 16
unfolding value_type_laid
value-name-short v c f e = subst (λ (x : List ℕ). length x ≤ 16) (sym e) (name-short c (both_left _ _ f.laid))

pub constants-few : (v : ValueTypes) (c : List ℕ) {r : List ℕ} {n : ℕ} → ValueTypeFits v c → r ≡ past_name c → n ≡ get_or r 0 0 → n ≤ 8
unfolding value_type_laid
constants-few v c {r} {n} f e q =
    subst (λ (m : ℕ). m ≤ 8) (sym (q ∙ ap (λ (x : List ℕ). get_or x 0 0) e)) (leb-true (byte (past_name c) 0) 8 (both_right _ _ (both_left _ _ (both_right _ _ f.laid))))

pub constants-named : (v : ValueTypes) (c : List ℕ) {r s : List ℕ} {n : ℕ} → ValueTypeFits v c → r ≡ past_name c → n ≡ get_or r 0 0 → s ≡ drop 1 r
    → all (λ k. starts_name (past_names k s)) n ≡ true
unfolding value_type_laid
constants-named v c {r} {s} {n} f e q p =
    ap₂ (λ (x : List ℕ) (m : ℕ). all (λ k. starts_name (past_names k x)) m) (p ∙ ap (drop 1) e) (q ∙ ap (λ (x : List ℕ). get_or x 0 0) e)
    ∙ both_left _ _ (both_right _ _ (both_right _ _ f.laid))

value-type-is : {a a' : List ℕ} {b b' : List (List ℕ)} → a ≡ a' → b ≡ b' → ◌≡◌ {A = ValueType} (record { name = a; constants = b }) (record { name = a'; constants = b' })
value-type-is e f = ap₂ (λ (x : List ℕ) (y : List (List ℕ)). record { name = x; constants = y }) e f

pub value-type-stored : (v r : ValueTypes) (c : List ℕ) {w rest s : List ℕ} {n : ℕ} → ValueTypeFits v c → length v.sizes ≡ 12 → w ≡ name_in c → rest ≡ past_name c → n ≡ get_or rest 0 0
    → s ≡ drop 1 rest → r.count ≡ v.count + 1 → NameStored v.names v.count w r.names → r.sizes ≡ set v.sizes v.count n
    → ConstantsStored v.constants v.count s n r.constants → ValueTypeStored v c r
unfolding value_types_of value_type_in value_type_of
value-type-stored v r c {n = n} fits size e f g h count names sizes constants =
    let q : n ≡ byte (past_name c) 0 = g ∙ ap (λ (x : List ℕ). get_or x 0 0) f in
    let p = h ∙ ap (drop 1) f in
    record {
      count = count;
      says = listed_more (value_type_in r) (value_type_in v) v.count r.count (value_type_of c) count
          (λ i l.
          let same : get_or r.sizes i 0 ≡ get_or v.sizes i 0 = set-kept v.sizes r.sizes v.count n i sizes l in
          let few : get_or v.sizes i 0 ≤ 8 = fits.few i l in
          value-type-is (names.kept i l)
          (ap (listed (λ k. slot_name r.constants (i * 8 + k))) same
          ∙ joined-ext _ _ (get_or v.sizes i 0) (λ k b. ap (λ (w : List ℕ). w ∷ []) (constants.kept (i * 8 + k) (let m : i * 8 + k < v.count * 8 = omega arith in m)))))
          (let room : v.count < length v.sizes = omega (arith, fits.room) in
          value-type-is (names.is ∙ e)
          (ap (listed (λ k. slot_name r.constants (v.count * 8 + k))) (set_is v.sizes r.sizes v.count n sizes room ∙ q)
          ∙ joined-ext _ _ (byte (past_name c) 0) (λ k b.
          ap (λ (w : List ℕ). w ∷ []) (constants.is k (let m : k < n = omega arith in m) ∙ ap (λ (l : List ℕ). name_in (past_names k l)) p))));
    }
