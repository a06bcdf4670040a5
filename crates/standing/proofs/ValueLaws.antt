-- What is written has exactly the values that are kept: each stands at its slot, which has a place in the order of names, and its
-- names have its code.
-- Assumes nothing.
use Prim.Native.Nat.{◌%◌, ◌*◌, ◌+◌, ◌-◌, ◌/◌, ◌<◌, ◌≤◌, suc, zero, ℕ}
use native.Mathlib.Omega.{arith}
use mathlib.Core.Bool.{Bool, ◌&&◌, cond, false, not, true}
use mathlib.Core.List.{[]}
use mathlib.Core.Logic.{◌≢◌, ◌⊎◌, inl, inr, ⊎_elim}
use mathlib.Core.Path.{◌∙◌, ◌≡◌, ap, refl, subst, sym}
use lib.Dec.{eqb}
use lib.ListN.{length}
use borrow.Author.Tests.{eq-eqb, eqb-false, eqb-true, lt-ltb, ltb-true, ne_eqb, not-false, not-true}
use Rattle.laws.specs.Bounded.{any}
use Rattle.laws.specs.Connective.{both}
use Rattle.laws.proofs.BoundedLaws.{any_at, any_of}
use Rattle.laws.proofs.ConnectiveLaws.{and_both, and_left, and_right, both_left, both_of, both_right, known, true-false}
use Rattle.laws.proofs.PickedLaws.{any-picked}
use Rattle.files.specs.Diagram.{Diagram, attribute_at}
use Rattle.files.specs.Membership.{has_value}
use Rattle.files.specs.Name.{Name, key}
use Rattle.files.specs.Record.{Value, value_at}
use Rattle.files.specs.WellFormedDiagram.{WfDiagram}
use Rattle.files.specs.WellFormedRecord.{WfRecord}
use Rattle.files.proofs.NameLaws.{same_key, same_self}
use Rattle.records.specs.Represents.{code_among, value_byte, value_for}
use Rattle.records.specs.Slots.{attribute_slot, code_of, own_attribute}
use Rattle.records.specs.Written.{Within, attribute_place, record_of, value_in, value_is, value_on}
use Rattle.records.specs.declared.MemoryRecord.{MemoryRecord}
use Rattle.records.proofs.PlaceLaws.{attribute-placed}
use Rattle.records.proofs.SlotLaws.{attribute-alike, attribute-known, own_below, own-slot}
use Rattle.memory_rules.proofs.AmongLaws.{code-has, code-of}
use Rattle.standing.specs.Clean.{Clean}
use Rattle.standing.proofs.CodeLaws.{code-self}

-- v is one of object o for the name w, and has the code k
abbrev coded_for : Diagram → ℕ → Name → ℕ → Value → Bool
coded_for d o w k v = both (value_for v o w) (eqb (code_of d v.value_type v.constant) k)

module _ (d : Diagram) (m : MemoryRecord) (wf : WfDiagram d) (inside : Within d m) (clean : Clean d m) (written : WfRecord (record_of d m)) where
  -- some value that is written passes a test exactly when some number is on whose value does
  value_written : (test : Value → Bool) → any (λ i. test (value_at (record_of d m) i)) (length (record_of d m).values) ≡ any (λ x. value_on d m x && test (value_is d m x)) (m.count * 32)
  unfolding record_of
  value_written test = any-picked test (value_on d m) (value_is d m) (record { object = 0; attribute = []; value_type = []; constant = [] }) (m.count * 32)

  -- a number that is on has its value kept at its slot
  on-kept : (o s x : ℕ) → own_attribute d s ≡ true → x < m.count * 32 → value_on d m x ≡ true → value_for (value_is d m x) o (attribute_at d s).name ≡ true → value_in m o s ≢ 0
  unfolding value_on value_is
  on-kept o s x own l on is =
      let t : ℕ = attribute_place d (x % 32) in
      let few : length d.attributes ≤ 32 = wf.few-attributes in
      let objects : m.count ≤ 8 = inside.few in
      let there : t < length d.attributes = ltb-true _ _ (both_left _ _ on) in
      let some : value_in m (x / 32) t ≢ 0 = eqb-false _ 0 (not-true _ (both_right _ _ on)) in
      let kept : own_attribute d t ≡ true = (clean.values (x / 32) t (omega arith) (omega arith) some).1 in
      let a : x / 32 ≡ o = eqb-true _ _ (both_left _ _ is) in
      let b : key (attribute_at d t).name ≡ key (attribute_at d s).name = same_key _ _ (both_right _ _ is) in
      let slot : t ≡ s = sym (own-slot d t kept) ∙ attribute-alike d _ _ b ∙ own-slot d s own in
      subst (λ (n : ℕ). value_in m n s ≢ 0) a (subst (λ (n : ℕ). value_in m (x / 32) n ≢ 0) slot some)

  -- nothing is kept, and so nothing is written
  none_written : (o s : ℕ) → own_attribute d s ≡ true → value_in m o s ≡ 0 → code_among d (record_of d m) o (attribute_at d s).name (length (record_of d m).values) ≡ 0
  unfolding has_value
  none_written o s own z =
      ⊎_elim (λ e.
      let x = any_at _ (m.count * 32) (sym (value_written (λ v. value_for v o (attribute_at d s).name)) ∙ e) in
      absurd (on-kept o s x.0 own x.1 (and_left (value_on d m x.0) (value_for (value_is d m x.0) o (attribute_at d s).name) x.2) (and_right (value_on d m x.0) (value_for (value_is d m x.0) o (attribute_at d s).name) x.2) z))
      (λ e. eqb-true _ _ (not-false _ (code-has d (record_of d m) written o (attribute_at d s).name ∙ e)))
      (known (has_value (record_of d m) o (attribute_at d s).name))

  -- it is kept, and so it is written with its code
  some_written : (o s : ℕ) → o < 8 → s < 32 → own_attribute d s ≡ true → value_in m o s ≢ 0
      → (x : ℕ) × (x < m.count * 32) × ((value_on d m x && coded_for d o (attribute_at d s).name (value_in m o s - 1) (value_is d m x)) ≡ true)
  unfolding value_on value_is
  some_written o s lo ls own some =
      let w : Name = (attribute_at d s).name in
      let below : o < m.count = (clean.values o s lo ls some).0 in
      let there : s < length d.attributes = own_below d s own in
      let t = attribute-placed d s own in
      let few : length d.attributes ≤ 32 = wf.few-attributes in
      let rank : t.0 < length d.attributes = t.1 in
      let x : ℕ = o * 32 + t.0 in
      let a : x / 32 ≡ o = omega arith in
      let b : x % 32 ≡ t.0 = omega arith in
      let place : attribute_place d (x % 32) ≡ s = ap (attribute_place d) b ∙ t.2 in
      let on : value_on d m x ≡ true = rw (a, place) (both_of _ _ (lt-ltb _ _ there) (ap not (ne_eqb (value_in m o s) 0 some))) in
      let code = code-self d wf (value_in m o s - 1) (inside.values o s below there some) in
      let is : coded_for d o w (value_in m o s - 1) (value_is d m x) ≡ true = rw (a, place) (both_of _ _ (both_of _ _ (eq-eqb o o refl) (same_self w)) (eq-eqb _ _ code)) in
      (x, omega arith, and_both (value_on d m x) (coded_for d o w (value_in m o s - 1) (value_is d m x)) on is)

  code-written : (o s : ℕ) → o < 8 → s < 32 → own_attribute d s ≡ true → value_in m o s ≢ 0
      → code_among d (record_of d m) o (attribute_at d s).name (length (record_of d m).values) ≡ value_in m o s
  code-written o s lo ls own some =
      let w : Name = (attribute_at d s).name in
      let x = some_written o s lo ls own some in
      let i = any_at _ (length (record_of d m).values) (value_written (coded_for d o w (value_in m o s - 1)) ∙ any_of (λ x. value_on d m x && coded_for d o w (value_in m o s - 1) (value_is d m x)) (m.count * 32) x.0 x.1 x.2) in
      let code : code_among d (record_of d m) o w (length (record_of d m).values) ≡ 1 + code_of d (value_at (record_of d m) i.0).value_type (value_at (record_of d m) i.0).constant =
      code-of d (record_of d m) written o w i.0 i.1 (both_left _ _ i.2) in
      let is : code_of d (value_at (record_of d m) i.0).value_type (value_at (record_of d m) i.0).constant ≡ value_in m o s - 1 = eqb-true _ _ (both_right _ _ i.2) in
      code ∙ one_more (value_in m o s) some is
    where
      one_more : (v : ℕ) → v ≢ 0 → {k : ℕ} → k ≡ v - 1 → 1 + k ≡ v
      one_more zero n e = absurd (n refl)
      one_more (suc v) n e = omega arith

  pub values-written : (o s : ℕ) → o < 8 → s < 32 → value_in m o s ≡ value_byte d (record_of d m) o s
  unfolding value_byte
  values-written o s lo ls = go (known (own_attribute d s)) (known (eqb (value_in m o s) 0))
    where
      code : ℕ
      code = code_among d (record_of d m) o (attribute_at d s).name (length (record_of d m).values)

      go : (own_attribute d s ≡ true) ⊎ (own_attribute d s ≡ false) → (eqb (value_in m o s) 0 ≡ true) ⊎ (eqb (value_in m o s) 0 ≡ false) → value_in m o s ≡ cond (own_attribute d s) code 0
      go (inl own) (inl z) = eqb-true _ _ z ∙ sym (none_written o s own (eqb-true _ _ z)) ∙ sym (ap (λ (b : Bool). cond b code 0) own)
      go (inl own) (inr n) = sym (code-written o s lo ls own (eqb-false _ 0 n)) ∙ sym (ap (λ (b : Bool). cond b code 0) own)
      go (inr f) (inl z) = eqb-true _ _ z ∙ sym (ap (λ (b : Bool). cond b code 0) f)
      go (inr f) (inr n) = absurd (true-false (clean.values o s lo ls (eqb-false _ 0 n)).1 f)

  -- each value that is written has an attribute of the diagram
  pub value-attributes : (x : ℕ) → value_on d m x ≡ true → attribute_slot d (value_is d m x).attribute < length d.attributes
  unfolding value_on value_is
  value-attributes x e =
      attribute-known d (attribute_at d (attribute_place d (x % 32))).name (attribute_place d (x % 32)) (ltb-true _ _ (both_left _ _ e)) (same_self (attribute_at d (attribute_place d (x % 32))).name)
