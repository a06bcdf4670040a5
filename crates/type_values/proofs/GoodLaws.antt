-- A record that is legal for old keeps rules 1, 3 and 4 of new where no object's type is bad.
-- Assumes nothing.
use Prim.Native.Nat.{◌+◌, ◌/◌, ◌<◌, ℕ}
use mathlib.Core.Bool.{false, true}
use mathlib.Core.Path.{◌∙◌, ◌≡◌, ap, subst, sym}
use lib.ListN.{get_or, length}
use borrow.Author.Tests.{eq-eqb, not-false}
use Rattle.laws.specs.Connective.{both}
use Rattle.laws.proofs.BoundedLaws.{all-at, all_of}
use Rattle.laws.proofs.ConnectiveLaws.{both_left, both_of, both_right, imp_use, same_test}
use Rattle.laws.proofs.ForallLaws.{same-iff}
use Rattle.files.specs.Diagram.{Diagram, attribute_at, type_at}
use Rattle.files.specs.Membership.{has_value}
use Rattle.files.specs.Name.{Name, key}
use Rattle.files.specs.Record.{Record, Value, object_count, object_type, value_at}
use Rattle.records.specs.Slots.{attribute_slot, type_index}
use Rattle.records.specs.Written.{IsValue}
use Rattle.records.specs.declared.MemoryRecord.{MemoryRecord}
use Rattle.records.proofs.SlotLaws.{attribute-name, index-name}
use Rattle.rules.specs.Judge.{Legal}
use Rattle.rules.specs.Site.{Site, site_of}
use Rattle.rules.specs.TypeRules.{rule1, rule1_at}
use Rattle.rules.specs.ValueRules.{declared, rule3, rule3_at, rule3_for, rule4, rule4_at}
use Rattle.rules.proofs.JudgeLaws.{legal-keeps}
use Rattle.rules.proofs.KeyLaws.{declared-alike}
use Rattle.memory_rules.specs.Stands.{Stands}
use Rattle.memory_rules.proofs.ValueLaws.{value-known}
use Rattle.fillings.proofs.LegalLaws.{known-type}
use Rattle.type_tables.specs.Due.{due}
use Rattle.type_values.specs.Bad.{allowed, alone, bad_by, code_kept, coded_value, codes_kept, name_kept, names_kept, type_kept}
use Rattle.type_values.proofs.AloneLaws.{Typed, alone-alike, declared-alone, rule1-alone, rule4-alone}
use Rattle.type_values.proofs.LegalLaws.{Coded, has-declared, record-typed, value-due}
use Rattle.type_values.proofs.NamedLaws.{named-alike-type, named-own}

-- ---- a type that is not bad, part by part

module _ (old new : Diagram) (t : ℕ) (good : bad_by old new t ≡ false) where
  kept-parts : both (type_kept old new t) (both (names_kept old new t) (codes_kept old new t)) ≡ true
  unfolding bad_by
  kept-parts = not-false _ good

  pub good-type : rule1_at new (alone (type_at old t).name) 0 ≡ true
  unfolding type_kept
  good-type = both_left _ _ kept-parts

  kept-name : (w : Name) → name_kept old new t w ≡ true → declared old (alone (type_at old t).name) 0 w ≡ declared new (alone (type_at old t).name) 0 w
  unfolding name_kept
  kept-name w e =
      let p = (same-iff (declared old (alone (type_at old t).name) 0 w) (declared new (alone (type_at old t).name) 0 w)).0 e in
      same_test _ _ p.0 p.1

  pub good_old : (a : ℕ) → a < length old.attributes
      → declared old (alone (type_at old t).name) 0 (attribute_at old a).name ≡ declared new (alone (type_at old t).name) 0 (attribute_at old a).name
  unfolding names_kept
  good_old a l = kept-name _ (all-at _ (length old.attributes) (both_left _ _ (both_left _ _ (both_right _ _ kept-parts))) a l)

  pub good_new : (a : ℕ) → a < length new.attributes
      → declared old (alone (type_at old t).name) 0 (attribute_at new a).name ≡ declared new (alone (type_at old t).name) 0 (attribute_at new a).name
  unfolding names_kept
  good_new a l = kept-name _ (all-at _ (length new.attributes) (both_right _ _ (both_left _ _ (both_right _ _ kept-parts))) a l)

  pub good-code : (s k : ℕ) → s < length old.attributes → k < 96 → allowed old t s k ≡ true
      → rule4_at new (alone (type_at old t).name) (coded_value old s k) ≡ true
  unfolding codes_kept code_kept
  good-code s k l small a =
      imp_use _ _ (all-at _ 96 (all-at _ (length old.attributes) (both_right _ _ (both_right _ _ kept-parts)) s l) k small) a

-- ---- codes

allowed_of : (d : Diagram) (t s k : ℕ) → due d t s ≡ 1 + k / 8 → IsValue d k → allowed d t s k ≡ true
unfolding allowed
allowed_of d t s k e v = both_of _ _ (eq-eqb _ _ e) v.constant-known

rule4-coded : (old new : Diagram) (x : Site) (w : Name) (v : Value) (s k : ℕ) → Typed x v.object w → key v.attribute ≡ key (attribute_at old s).name → Coded old v k
    → rule4_at new x v ≡ rule4_at new (alone w) (coded_value old s k)
unfolding coded_value
rule4-coded old new x w v s k is a c = rule4-alone new x w v (coded_value old s k) is a (sym c.type-is) (sym c.constant-is)

-- ---- the record

module _ (old new : Diagram) (r : Record) (m : MemoryRecord) (stands : Stands old r m) (legal : Legal old r)
    (good : (o : ℕ) → o < m.count → bad_by old new (get_or m.types o 0) ≡ false)
  where
    abbrev type_of : ℕ → ℕ
    type_of o = get_or m.types o 0

    object-in : (o : ℕ) → o < object_count r → o < m.count
    object-in o l = subst (λ (n : ℕ). o < n) (sym stands.count) l

    type-index : (o : ℕ) → o < object_count r → type_of o ≡ type_index old (object_type r o)
    type-index o l = stands.represents.types o l

    type-below : (o : ℕ) → o < object_count r → type_of o < length old.types
    type-below o l =
        subst (λ (n : ℕ). n < length old.types) (sym (type-index o l)) (known-type old r legal o l)

    type-name : (o : ℕ) → o < object_count r → key (type_at old (type_of o)).name ≡ key (object_type r o)
    type-name o l =
        ap (λ (n : ℕ). key (type_at old n).name) (type-index o l) ∙ index-name old (object_type r o) (known-type old r legal o l)

    -- ---- rule 1

    pub good-keeps-1 : rule1 new (site_of r) ≡ true
    unfolding rule1
    good-keeps-1 = all_of _ _ each
      where
        each : (o : ℕ) → o < (site_of r).count → rule1_at new (site_of r) o ≡ true
        each o l = unfold site_of in
            rule1-alone new (site_of r) o (object_type r o) (record-typed r o)
            ∙ subst (λ (x : Site). rule1_at new x 0 ≡ true) (alone-alike _ _ (type-name o l)) (good-type old new (type_of o) (good o (object-in o l)))

    -- ---- rule 3

    rule3-name : (o : ℕ) (w : Name) → o < object_count r
        → declared old (alone (type_at old (type_of o)).name) 0 w ≡ declared new (alone (type_at old (type_of o)).name) 0 w → rule3_for new (site_of r) o w ≡ true
    unfolding rule3_for site_of
    rule3-name o w l e =
        let q : has_value r o w ≡ declared new (site_of r) o w = has-declared old r legal o w l
        ∙ subst (λ (x : Site). declared old x 0 w ≡ declared new x 0 w) (alone-alike _ _ (type-name o l)) e
        ∙ sym (declared-alone new (site_of r) o (object_type r o) (record-typed r o) w) in
        (same-iff (has_value r o w) (declared new (site_of r) o w)).1 ((λ h. sym q ∙ h), (λ h. q ∙ h))

    rule3-value : (o i : ℕ) → o < object_count r → i < length r.values → rule3_for new (site_of r) o (value_at r i).attribute ≡ true
    rule3-value o i l k =
        let w : Name = (value_at r i).attribute in
        let there : attribute_slot old w < length old.attributes = value-known old r (legal-keeps old r legal).third i k (stands.wf-record.value i k).object-below in
        rule3-name o w l
        (sym (declared-alike old (alone (type_at old (type_of o)).name) 0 _ _ (attribute-name old w there))
        ∙ good_old old new (type_of o) (good o (object-in o l)) (attribute_slot old w) there
        ∙ declared-alike new (alone (type_at old (type_of o)).name) 0 _ _ (attribute-name old w there))

    pub good-keeps-3 : rule3 new (site_of r) ≡ true
    unfolding rule3
    good-keeps-3 = all_of _ _ each
      where
        each : (o : ℕ) → o < (site_of r).count → rule3_at new (site_of r) o ≡ true
        each o l = unfold site_of rule3_at in
            both_of _ _ (all_of _ (length new.attributes) (λ a k. rule3-name o (attribute_at new a).name l (good_new old new (type_of o) (good o (object-in o l)) a k)))
            (all_of _ (length r.values) (λ i k. rule3-value o i l k))

    -- ---- rule 4

    rule4-value : (i : ℕ) → i < length r.values → rule4_at new (site_of r) (value_at r i) ≡ true
    rule4-value i l =
        let v : Value = value_at r i in
        let o : ℕ = v.object in
        let w : Name = v.attribute in
        let under : v.object < object_count r = (stands.wf-record.value i l).object-below in
        let s : ℕ = attribute_slot old w in
        let there : attribute_slot old w < length old.attributes = value-known old r (legal-keeps old r legal).third i l under in
        let k = value-due old stands.wf-diagram r stands.wf-record legal i l in
        let due-is : due old (type_of o) s ≡ 1 + k.0 / 8 =
        sym (named-own old stands.wf-diagram (type_of o) (type-below o under) w) ∙ named-alike-type old _ _ w (type-name o under) ∙ k.2 in
        rule4-coded old new (site_of r) (object_type r o) v s k.0 (record-typed r o) (sym (attribute-name old w there)) k.1
        ∙ subst (λ (x : Site). rule4_at new x (coded_value old s k.0) ≡ true) (alone-alike _ _ (type-name o under))
        (good-code old new (type_of o) (good o (object-in o under)) s k.0 there k.1.small (allowed_of old (type_of o) s k.0 due-is k.1.is-value))

    pub good-keeps-4 : rule4 new (site_of r) ≡ true
    unfolding rule4 site_of
    good-keeps-4 = all_of _ (length r.values) rule4-value

-- all three
pub record KeepsValues (new : Diagram) (r : Record) : Type 0 where
  pub first : rule1 new (site_of r) ≡ true
  pub third : rule3 new (site_of r) ≡ true
  pub fourth : rule4 new (site_of r) ≡ true

pub good-keeps : (old new : Diagram) (r : Record) (m : MemoryRecord) → Stands old r m → Legal old r
    → ((o : ℕ) → o < m.count → bad_by old new (get_or m.types o 0) ≡ false) → KeepsValues new r
good-keeps old new r m stands legal good =
    record { first = good-keeps-1 old new r m stands legal good; third = good-keeps-3 old new r m stands legal good; fourth = good-keeps-4 old new r m stands legal good }
