-- The values of a record that is legal for a diagram, by the names of its objects' types: an object has a value for a name exactly
-- when that name is declared for its type, and the value has a code that is allowed.
-- Assumes nothing.
use Prim.Native.Nat.{◌%◌, ◌+◌, ◌-◌, ◌/◌, ◌<◌, ℕ}
use native.Mathlib.Omega.{arith}
use mathlib.Core.Bool.{Bool, cond, not, true}
use mathlib.Core.List.{[]}
use mathlib.Core.Logic.{◌≢◌}
use mathlib.Core.Path.{◌∙◌, ◌≡◌, ap, refl, subst, sym}
use lib.Dec.{eqb}
use lib.ListN.{get_or, length}
use borrow.Author.Tests.{eqb-false, eqb-true, ne_eqb, not-true}
use Rattle.laws.specs.Connective.{both, same}
use Rattle.laws.proofs.BoundedLaws.{all-at, any_at}
use Rattle.laws.proofs.ConnectiveLaws.{both_left, both_right, same_test}
use Rattle.laws.proofs.ForallLaws.{same-iff}
use Rattle.files.specs.Diagram.{Diagram, attribute_at, value_type_at}
use Rattle.files.specs.Membership.{has_value}
use Rattle.files.specs.Name.{Name, key}
use Rattle.files.specs.Record.{Record, Value, object_count, object_type, value_at}
use Rattle.files.specs.WellFormedDiagram.{WfDiagram}
use Rattle.files.specs.WellFormedRecord.{WfRecord}
use Rattle.files.proofs.NameLaws.{differ-once, same_key}
use Rattle.files.proofs.MembershipLaws.{value-alike}
use Rattle.records.specs.Slots.{code_of, is_code}
use Rattle.records.specs.Written.{IsValue}
use Rattle.records.proofs.SlotLaws.{code-value}
use Rattle.rules.specs.Judge.{Legal}
use Rattle.rules.specs.Site.{site_of}
use Rattle.rules.specs.ValueRules.{belongs, declared, declares, rule3, rule3_at, rule3_for, rule4, rule4_at}
use Rattle.rules.proofs.JudgeLaws.{legal-keeps}
use Rattle.rules.proofs.KeyLaws.{declared-alike}
use Rattle.memory_rules.proofs.CodeLaws.{belongs-coded, code-constant, code_holds, code-type}
use Rattle.memory_rules.proofs.ValueLaws.{value-declared}
use Rattle.type_values.specs.Bad.{alone}
use Rattle.type_values.specs.Named.{due_named, fits_due}
use Rattle.type_values.proofs.AloneLaws.{Typed, declared-alone, rule4-alone}
use Rattle.type_values.proofs.NamedLaws.{named-declared, named-due, named-fits}

-- ---- codes

-- value v has the code k, a value of the diagram
pub record Coded (d : Diagram) (v : Value) (k : ℕ) : Type 0 where
  pub small : k < 96
  pub is-value : IsValue d k
  pub type-is : key (value_type_at d (k / 8)).name ≡ key v.value_type
  pub constant-is : key (get_or (value_type_at d (k / 8)).constants (k % 8) []) ≡ key v.constant

module _ (d : Diagram) (wf : WfDiagram d) where
  -- a value that belongs to value type u has a code of u
  belongs-code : (v : Value) (u : ℕ) → u < length d.value_types → belongs v (value_type_at d u) ≡ true → (k : ℕ) × Coded d v k × (k / 8 ≡ u)
  unfolding belongs
  belongs-code v u l e =
      let k : ℕ = code_of d v.value_type v.constant in
      let small : k < 96 = belongs-coded d wf v u l e in
      let is : is_code d v.value_type v.constant k ≡ true = code_holds d wf v.value_type v.constant small in
      let type : key (value_type_at d (k / 8)).name ≡ key v.value_type = code-type d wf v.value_type v.constant k is in
      let value = code-value d v.value_type v.constant k is in
      let own : key (value_type_at d u).name ≡ key v.value_type = same_key _ _ (both_left _ _ e) in (
        k,
        record { small = small; is-value = value; type-is = type; constant-is = code-constant d wf v.value_type v.constant k is },
        differ-once (λ n. (value_type_at d n).name) (length d.value_types) wf.value-types-differ (k / 8) u value.type-known l (type ∙ sym own),
      )

  -- where something is due, and a value belongs to it, that is its code's value type
  pub fits-code : (v : Value) (e : ℕ) → e ≢ 0 → (e ≢ 255 → e - 1 < length d.value_types) → fits_due d v e ≡ true → (k : ℕ) × Coded d v k × (e ≡ 1 + k / 8)
  unfolding fits_due
  fits-code v e n f q =
      let r : both (not (eqb e 255)) (belongs v (value_type_at d (e - 1))) ≡ true = sym (ap (λ (b : Bool). cond b true (both (not (eqb e 255)) (belongs v (value_type_at d (e - 1))))) (ne_eqb e 0 n)) ∙ q in
      let w = belongs-code v (e - 1) (f (eqb-false e 255 (not-true _ (both_left _ _ r)))) (both_right _ _ r) in
      let u : w.0 / 8 ≡ e - 1 = w.2 in
      (w.0, w.1, omega arith)

-- ---- records

pub record-typed : (r : Record) (o : ℕ) → Typed (site_of r) o (object_type r o)
unfolding site_of
record-typed r o v = refl

module _ (d : Diagram) (r : Record) (legal : Legal d r) where
  -- rule 3: for each name, also one that the diagram lacks
  pub has-declared : (o : ℕ) (w : Name) → o < object_count r → has_value r o w ≡ declared d (alone (object_type r o)) 0 w
  has-declared o w l = same_test _ _ forth back
    where
      forth : has_value r o w ≡ true → declared d (alone (object_type r o)) 0 w ≡ true
      forth e = unfold has_value in
          let i = any_at _ (length r.values) e in
          let object : (value_at r i.0).object ≡ o = eqb-true _ _ (both_left _ _ i.2) in
          let name : key (value_at r i.0).attribute ≡ key w = same_key _ _ (both_right _ _ i.2) in
          let under : (value_at r i.0).object < object_count r = omega arith in
          sym (declared-alone d (site_of r) o (object_type r o) (record-typed r o) w)
          ∙ subst (λ (p : ℕ). declared d (site_of r) p w ≡ true) object
          (sym (declared-alike d (site_of r) (value_at r i.0).object _ _ name) ∙ value-declared d r (legal-keeps d r legal).third i.0 i.1 under)

      asked : (a : ℕ) → a < length d.attributes → same (has_value r o (attribute_at d a).name) (declared d (site_of r) o (attribute_at d a).name) ≡ true
      asked a k = unfold rule3 rule3_at rule3_for site_of in
          all-at _ (length d.attributes) (both_left _ _ (all-at (rule3_at d (site_of r)) (object_count r) (legal-keeps d r legal).third o l)) a k

      back : declared d (alone (object_type r o)) 0 w ≡ true → has_value r o w ≡ true
      back e = unfold declared declares in
          let s = declared-alone d (site_of r) o (object_type r o) (record-typed r o) in
          let a = any_at _ (length d.attributes) e in
          let name : key (attribute_at d a.0).name ≡ key w = same_key _ _ (both_right _ _ a.2) in
          sym (value-alike r o _ _ name)
          ∙ (((same-iff (has_value r o (attribute_at d a.0).name) (declared d (site_of r) o (attribute_at d a.0).name)).0 (asked a.0 a.1)).1
          (s (attribute_at d a.0).name ∙ declared-alike d (alone (object_type r o)) 0 _ _ name ∙ e))

module _ (d : Diagram) (wf : WfDiagram d) (r : Record) (names : WfRecord r) (legal : Legal d r) where
  -- rules 3 and 4: each value has a code, of the value type that is due
  pub value-due : (i : ℕ) → i < length r.values
      → (k : ℕ) × Coded d (value_at r i) k × (due_named d (object_type r (value_at r i).object) (value_at r i).attribute ≡ 1 + k / 8)
  unfolding rule4 site_of
  value-due i l =
      let v : Value = value_at r i in
      let n : Name = object_type r v.object in
      let under : v.object < object_count r = (names.value i l).object-below in
      let said : declared d (alone n) 0 v.attribute ≡ true = sym (declared-alone d (site_of r) v.object n (record-typed r v.object) v.attribute) ∙ value-declared d r (legal-keeps d r legal).third i l under in
      let some : due_named d n v.attribute ≢ 0 = eqb-false _ 0 (not-true _ (sym (named-declared d wf n v.attribute) ∙ said)) in
      let fits : rule4_at d (alone n) v ≡ true =
      sym (rule4-alone d (site_of r) n v v (record-typed r v.object) refl refl refl) ∙ all-at (λ j. rule4_at d (site_of r) (value_at r j)) (length r.values) (legal-keeps d r legal).fourth i l in
      fits-code d wf v (due_named d n v.attribute) some ((named-due d wf n v.attribute).type-known some) (sym (named-fits d wf n v) ∙ fits)
