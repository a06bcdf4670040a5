-- Rules 3 and 4. A value of a name that the diagram lacks is declared by nothing: it breaks rule 3, which the mark says, and
-- rule 4 passes it over. Every other value is the one kept at its object and its name's slot.
-- Assumes nothing.
use Prim.Native.Nat.{◌%◌, ◌*◌, ◌+◌, ◌-◌, ◌/◌, ◌<◌, ◌≤◌, ℕ}
use native.Mathlib.Decide.{dec_lt}
use native.Mathlib.Omega.{arith}
use mathlib.Core.Bool.{Bool, false, false≢true, not, true}
use mathlib.Core.Logic.{⊎_elim}
use mathlib.Core.Path.{◌∙◌, ◌≡◌, ap, ap₂, refl, sym}
use lib.Dec.{eqb}
use lib.ListN.{length}
use borrow.Author.Tests.{eq-eqb, eqb-false, eqb-true}
use Rattle.laws.specs.Bounded.{all}
use Rattle.laws.specs.Connective.{both, imp, same}
use Rattle.files.specs.Diagram.{Diagram, attribute_at}
use Rattle.files.specs.Membership.{has_value}
use Rattle.files.specs.Name.{Name, key}
use Rattle.files.specs.Record.{Record, Value, object_count, value_at}
use Rattle.records.specs.Represents.{code_among, stray_value, value_for}
use Rattle.records.specs.Slots.{attribute_slot, code_of, own_attribute}
use Rattle.records.specs.Written.{value_in}
use Rattle.records.specs.declared.MemoryRecord.{MemoryRecord}
use Rattle.records.proofs.SlotLaws.{attribute-known, attribute-most, attribute-name, attribute-own, own_below, own-slot}
use Rattle.rules.specs.Site.{site_of}
use Rattle.rules.specs.ValueRules.{declared, declares, rule3, rule3_at, rule3_for, rule4, rule4_at}
use Rattle.rules.proofs.KeyLaws.{declares-alike, rule3-alike}
use Rattle.memory_rules.specs.JudgeIn.{rule3_in}
use Rattle.memory_rules.specs.SiteIn.{kept_value, site_in, value_kept}
use Rattle.memory_rules.specs.Stands.{Stands}
use Rattle.laws.proofs.BoundedLaws.{all-at, all-ext, all_of, any_at, any-no, any_of}
use Rattle.laws.proofs.ConnectiveLaws.{both-implied, both_left, both_of, both_right, imp-of, imp_use, known, same_test}
use Rattle.files.proofs.NameLaws.{key-same, same_key, same_self}
use Rattle.memory_rules.proofs.AgreeLaws.{declared-agrees, declares-agrees}
use Rattle.memory_rules.proofs.AmongLaws.{code-has, code-of}
use Rattle.memory_rules.proofs.CodeLaws.{decoded-belongs}
use Rattle.memory_rules.proofs.SiteInLaws.{agrees, object-small, value-kept, valued-known}

module _ (d : Diagram) (r : Record) where
  -- rule 3 has each value's attribute declared for its object
  pub value-declared : rule3 d (site_of r) ≡ true
      → (i : ℕ) → i < length r.values → (value_at r i).object < object_count r → declared d (site_of r) (value_at r i).object (value_at r i).attribute ≡ true
  unfolding rule3 rule3_at rule3_for same site_of has_value
  value-declared f i l object =
      let o : ℕ = (value_at r i).object in
      let w : Name = (value_at r i).attribute in
      let each = both_right _ _ (all-at (rule3_at d (site_of r)) (object_count r) f o object) in
      let said : same (has_value r o w) (declared d (site_of r) o w) ≡ true = all-at (λ j. rule3_for d (site_of r) o (value_at r j).attribute) (length r.values) each i l in
      let has : has_value r o w ≡ true = any_of (λ j. value_for (value_at r j) o w) (length r.values) i l (both_of _ _ (eq-eqb o o refl) (same_self w)) in
      ap (λ (b : Bool). same b (declared d (site_of r) o w)) (sym has) ∙ said

  -- so that the diagram has its name
  pub value-known : rule3 d (site_of r) ≡ true
      → (i : ℕ) → i < length r.values → (value_at r i).object < object_count r → attribute_slot d (value_at r i).attribute < length d.attributes
  unfolding declared declares
  value-known f i l object = let a = any_at _ (length d.attributes) (value-declared f i l object) in attribute-known d (value_at r i).attribute a.0 a.1 (both_right _ _ a.2)

module _ (d : Diagram) (r : Record) (m : MemoryRecord) (h : Stands d r m) where
  -- ---- values kept and values of the record

  -- what is kept at a slot of its own
  pub own_value : (o s : ℕ) → o < 8 → own_attribute d s ≡ true → value_in m o s ≡ code_among d r o (attribute_at d s).name (length r.values)
  own_value o s l e =
      let q : attribute_slot d (attribute_at d s).name ≡ s = own-slot d s e in
      let b : s < length d.attributes = own_below d s e in
      ap (value_in m o) (sym q) ∙ value-kept d r m h o (attribute_at d s).name l (omega arith)

  -- value number x is kept, and the record's value i is that one
  record ValuePair (x i : ℕ) : Type 0 where
    below : x < m.count * 32
    within : i < length r.values
    own : own_attribute d (x % 32) ≡ true
    is : value_for (value_at r i) (x / 32) (attribute_at d (x % 32)).name ≡ true

  pair-kept : (x i : ℕ) → ValuePair x i → value_kept d m x ≡ true
  unfolding value_kept has_value
  pair-kept x i p =
      let l : x < m.count * 32 = p.below in
      both_of _ _ p.own
      (ap (λ (n : ℕ). not (eqb n 0)) (own_value (x / 32) (x % 32) (object-small d r m h (x / 32) (omega arith)) p.own)
      ∙ code-has d r h.wf-record (x / 32) (attribute_at d (x % 32)).name
      ∙ any_of (λ j. value_for (value_at r j) (x / 32) (attribute_at d (x % 32)).name) (length r.values) i p.within p.is)

  -- each value kept is one of the record
  kept_pair : (x : ℕ) → x < m.count * 32 → value_kept d m x ≡ true → (i : ℕ) × ValuePair x i
  unfolding value_kept has_value
  kept_pair x l e =
      let own : own_attribute d (x % 32) ≡ true = both_left _ _ e in
      let has : has_value r (x / 32) (attribute_at d (x % 32)).name ≡ true =
      sym (code-has d r h.wf-record (x / 32) (attribute_at d (x % 32)).name)
      ∙ ap (λ (n : ℕ). not (eqb n 0)) (sym (own_value (x / 32) (x % 32) (object-small d r m h (x / 32) (omega arith)) own)) ∙ both_right _ _ e in
      let w = any_at _ (length r.values) has in
      (w.0, record { below = l; within = w.1; own = own; is = w.2 })

  -- each value of the record whose name the diagram has is kept
  value-pair : (i : ℕ) → i < length r.values → attribute_slot d (value_at r i).attribute < length d.attributes → (x : ℕ) × ValuePair x i
  value-pair i l k =
      let o : ℕ = (value_at r i).object in
      let s : ℕ = attribute_slot d (value_at r i).attribute in
      let few : length d.attributes ≤ 32 = h.wf-diagram.few-attributes in
      let object : (value_at r i).object < object_count r = (h.wf-record.value i l).object-below in
      let count : m.count ≡ object_count r = h.count in
      let a : (o * 32 + s) / 32 ≡ o = omega arith in
      let b : (o * 32 + s) % 32 ≡ s = omega arith in
      let own : own_attribute d s ≡ true = attribute-own d (value_at r i).attribute k in
      let name : key (attribute_at d s).name ≡ key (value_at r i).attribute = attribute-name d (value_at r i).attribute k in
      let is : value_for (value_at r i) o (attribute_at d s).name ≡ true =
      both_of _ _ (eq-eqb o o refl) (key-same (value_at r i).attribute (attribute_at d s).name (sym name)) in
      (o * 32 + s, record { below = omega arith; within = l; own = rw b own; is = rw (a, b) is })

  -- ---- rule 3

  rule3-for : (o : ℕ) (w : Name) → o < m.count → attribute_slot d w < length d.attributes → rule3_for d (site_in d m) o w ≡ rule3_for d (site_of r) o w
  unfolding rule3_for site_in site_of
  rule3-for o w l k = ap₂ same (valued-known d r m h o w (object-small d r m h o l) k) (declared-agrees d (site_in d m) (site_of r) (agrees d r m h) o w l)

  names-for : (o : ℕ) → o < m.count
      → all (λ a. rule3_for d (site_in d m) o (attribute_at d a).name) (length d.attributes) ≡ all (λ a. rule3_for d (site_of r) o (attribute_at d a).name) (length d.attributes)
  names-for o l = all-ext _ _ (length d.attributes) (λ a k. rule3-for o (attribute_at d a).name l (attribute-known d (attribute_at d a).name a k (same_self (attribute_at d a).name)))

  -- what is kept has names of the diagram, and so has every value of a record without strays
  names_in : (o : ℕ) → rule3_at d (site_in d m) o ≡ all (λ a. rule3_for d (site_in d m) o (attribute_at d a).name) (length d.attributes)
  unfolding rule3_at site_in kept_value value_kept
  names_in o = both-implied _ _ (λ e. all_of _ (m.count * 32) (λ x l. imp-of _ _ (λ k.
      all-at (λ a. rule3_for d (site_in d m) o (attribute_at d a).name) (length d.attributes) e (x % 32) (own_below d (x % 32) (both_left _ _ k)))))

  no_stray : stray_value d r ≡ false → (i : ℕ) → i < length r.values → attribute_slot d (value_at r i).attribute < length d.attributes
  unfolding stray_value
  no_stray none i l =
      let other : attribute_slot d (value_at r i).attribute ≡ length d.attributes → ⊥ = eqb-false _ _ (any-no _ (length r.values) none i l) in
      let most : attribute_slot d (value_at r i).attribute ≤ length d.attributes = attribute-most d (value_at r i).attribute in
      omega arith

  names_of : stray_value d r ≡ false → (o : ℕ) → rule3_at d (site_of r) o ≡ all (λ a. rule3_for d (site_of r) o (attribute_at d a).name) (length d.attributes)
  unfolding rule3_at site_of
  names_of none o = both-implied _ _ (λ e. all_of _ (length r.values) (λ i l.
      let k : attribute_slot d (value_at r i).attribute < length d.attributes = no_stray none i l in
      rule3-alike d r o _ _ (sym (attribute-name d (value_at r i).attribute k))
      ∙ (all-at (λ a. rule3_for d (site_of r) o (attribute_at d a).name) (length d.attributes) e (attribute_slot d (value_at r i).attribute) k)))

  rule3-clean : stray_value d r ≡ false → rule3 d (site_in d m) ≡ rule3 d (site_of r)
  unfolding rule3 site_in site_of
  rule3-clean none = all-ext _ _ m.count (λ o l. names_in o ∙ names-for o l ∙ sym (names_of none o)) ∙ ap (all (rule3_at d (site_of r))) h.count

  -- a stray is a value that nothing declares
  stray-breaks : stray_value d r ≡ true → rule3 d (site_of r) ≡ true → ⊥
  unfolding stray_value
  stray-breaks e f =
      let i = any_at _ (length r.values) e in
      let slot : attribute_slot d (value_at r i.0).attribute ≡ length d.attributes = eqb-true _ _ i.2 in
      let there : attribute_slot d (value_at r i.0).attribute < length d.attributes = value-known d r f i.0 i.1 (h.wf-record.value i.0 i.1).object-below in
      omega arith

  -- the mark decides; without it the kept values do
  rule3-marked : m.strays.values ≡ true → rule3_in d m ≡ false
  unfolding rule3_in both
  rule3-marked e = rw e

  rule3-unmarked : m.strays.values ≡ false → rule3_in d m ≡ rule3 d (site_in d m)
  unfolding rule3_in both
  rule3-unmarked e = rw e

  pub rule3-in : rule3_in d m ≡ rule3 d (site_of r)
  rule3-in =
      ⊎_elim (λ e. rule3-marked (h.represents.stray-values ∙ e) ∙ sym (same_test (rule3 d (site_of r)) false (λ f. absurd (stray-breaks e f)) (λ f. absurd (false≢true f))))
      (λ e. rule3-unmarked (h.represents.stray-values ∙ e) ∙ rule3-clean e) (known (stray_value d r))

  -- ---- rule 4

  -- what is kept is one more than the value's code
  pair_code : (x i : ℕ) → ValuePair x i → value_in m (x / 32) (x % 32) - 1 ≡ code_of d (value_at r i).value_type (value_at r i).constant
  pair_code x i p =
      let l : x < m.count * 32 = p.below in
      let a : value_in m (x / 32) (x % 32) ≡ code_among d r (x / 32) (attribute_at d (x % 32)).name (length r.values) = own_value (x / 32) (x % 32) (object-small d r m h (x / 32) (omega arith)) p.own in
      let b : code_among d r (x / 32) (attribute_at d (x % 32)).name (length r.values) ≡ 1 + code_of d (value_at r i).value_type (value_at r i).constant =
      code-of d r h.wf-record (x / 32) (attribute_at d (x % 32)).name i p.within p.is in
      omega arith

  rule4-pair : (x i : ℕ) → ValuePair x i → rule4_at d (site_in d m) (kept_value d m x) ≡ rule4_at d (site_of r) (value_at r i)
  unfolding rule4_at kept_value site_in
  rule4-pair x i p =
      let l : x < m.count * 32 = p.below in
      let object : (value_at r i).object ≡ x / 32 = eqb-true _ _ (both_left _ _ p.is) in
      let name : key (value_at r i).attribute ≡ key (attribute_at d (x % 32)).name = same_key _ _ (both_right _ _ p.is) in
      all-ext _ _ (length d.attributes) (λ a k.
      ap₂ imp
      (declares-agrees d (site_in d m) (site_of r) (agrees d r m h) (x / 32) a (attribute_at d (x % 32)).name (omega arith)
      ∙ ap (λ (o : ℕ). declares d (site_of r) o a (attribute_at d (x % 32)).name) (sym object) ∙ declares-alike d (site_of r) (value_at r i).object a _ _ (sym name))
      (decoded-belongs d h.wf-diagram (value_at r i) (kept_value d m x) (value_in m (x / 32) (x % 32) - 1) (attribute_at d a).value_type (pair_code x i p) refl refl
      (h.wf-diagram.attribute a k).value-type-known))

  -- rule 4 asks nothing of a value whose name the diagram lacks
  rule4-stray : (v : Value) → length d.attributes ≤ attribute_slot d v.attribute → rule4_at d (site_of r) v ≡ true
  unfolding rule4_at declares
  rule4-stray v l = all_of _ (length d.attributes) (λ a k. imp-of _ _ (λ e.
      let b : attribute_slot d v.attribute < length d.attributes = attribute-known d v.attribute a k (both_right _ _ e) in absurd (omega arith)))

  pub rule4-in : rule4 d (site_in d m) ≡ rule4 d (site_of r)
  unfolding rule4 site_in site_of
  rule4-in = same_test _ _ forth back
    where
      forth : all (λ x. imp (value_kept d m x) (rule4_at d (site_in d m) (kept_value d m x))) (m.count * 32) ≡ true → all (λ i. rule4_at d (site_of r) (value_at r i)) (length r.values) ≡ true
      forth e = all_of _ (length r.values) (λ i l. go i l (dec_lt (attribute_slot d (value_at r i).attribute) (length d.attributes)))
        where
          go : (i : ℕ) → i < length r.values → Dec (attribute_slot d (value_at r i).attribute < length d.attributes) → rule4_at d (site_of r) (value_at r i) ≡ true
          go i l (yes k) =
              let x = value-pair i l k in
              sym (rule4-pair x.0 i x.1) ∙ imp_use _ _ (all-at _ (m.count * 32) e x.0 x.1.below) (pair-kept x.0 i x.1)
          go i l (no k) = rule4-stray (value_at r i) (omega arith)

      back : all (λ i. rule4_at d (site_of r) (value_at r i)) (length r.values) ≡ true → all (λ x. imp (value_kept d m x) (rule4_at d (site_in d m) (kept_value d m x))) (m.count * 32) ≡ true
      back e = all_of _ (m.count * 32) (λ x l. imp-of _ _ (λ k.
          let i = kept_pair x l k in
          rule4-pair x i.0 i.1 ∙ all-at _ (length r.values) e i.0 i.1.within))
