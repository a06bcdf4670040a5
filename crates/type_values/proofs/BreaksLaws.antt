-- A filled record with an object of a bad type: what is written of it, where it is legal for old, does not keep rules 1, 3 and 4 of new.
-- For if it did, the type would keep them: rule 3 says for each name whether new declares it, and by rule 3 of old the object has a
-- value exactly for the names that old declares; and rule 4 of new holds of the chosen value, which is the worst that old allows.
-- Assumes nothing.
use Prim.Native.Nat.{◌%◌, ◌*◌, ◌+◌, ◌-◌, ◌/◌, ◌<◌, ◌≤◌, ℕ}
use native.Mathlib.Omega.{arith}
use mathlib.Core.Bool.{Bool, ◌&&◌, false, not, true}
use mathlib.Core.List.{List, []}
use mathlib.Core.Logic.{◌≢◌, ⊎_elim}
use mathlib.Core.Path.{◌∙◌, ◌≡◌, ap, ap₂, subst, sym}
use lib.Dec.{ltb}
use lib.ListN.{get_or, length}
use borrow.Author.Tests.{eq-eqb, eqb-true, lt-ltb, ne_eqb, not-true}
use Rattle.laws.specs.Bounded.{any}
use Rattle.laws.proofs.BoundedLaws.{all-at, all_of, any_at, any_of}
use Rattle.laws.proofs.ConnectiveLaws.{and_both, both_left, both_of, both_right, imp-of, known, same_test, true-false}
use Rattle.laws.proofs.ForallLaws.{same-iff}
use Rattle.laws.proofs.PickedLaws.{any-picked}
use Rattle.files.specs.Diagram.{Diagram, attribute_at, type_at, value_type_at}
use Rattle.files.specs.Membership.{has_value}
use Rattle.files.specs.Name.{Name, key}
use Rattle.files.specs.Record.{Value, object_count, value_at}
use Rattle.files.specs.WellFormedDiagram.{WfDiagram}
use Rattle.files.proofs.NameLaws.{same_key}
use Rattle.records.specs.declared.MemoryRecord.{MemoryRecord}
use Rattle.records.specs.Slots.{own_attribute}
use Rattle.records.specs.Written.{attribute_place, record_of, value_in, value_is, value_on}
use Rattle.records.proofs.PlaceLaws.{attribute-placed}
use Rattle.records.proofs.WrittenLaws.{written_count, written-object}
use Rattle.rules.specs.Judge.{Legal}
use Rattle.rules.specs.Site.{site_of}
use Rattle.rules.specs.TypeRules.{rule1, rule1_at}
use Rattle.rules.specs.ValueRules.{declared, declares, rule3, rule3_at, rule3_for, rule4, rule4_at}
use Rattle.rules.proofs.KeyLaws.{rule3-alike}
use Rattle.type_tables.specs.Due.{due}
use Rattle.type_values.specs.Bad.{allowed, alone, bad_by, code_kept, coded_value, codes_kept, name_kept, names_kept, type_kept}
use Rattle.type_values.specs.Filled.{Filled, UsableObjects, chosen_code}
use Rattle.type_values.proofs.AloneLaws.{Typed, declared-alone, rule1-alone, rule4-alone}
use Rattle.type_values.proofs.ChosenLaws.{chosen-worst}
use Rattle.type_values.proofs.FilledLaws.{filled-some, filled-type}
use Rattle.type_values.proofs.GoodLaws.{KeepsValues}
use Rattle.type_values.proofs.KeptLaws.{due-own}
use Rattle.type_values.proofs.LegalLaws.{has-declared, record-typed}

module _ (old new : Diagram) (wold : WfDiagram old) (wnew : WfDiagram new) (types links : List ℕ) (n : ℕ) (m : MemoryRecord) (few : n ≤ 8)
    (filled : Filled old new types links n m) (usable : UsableObjects old types n) (legal : Legal old (record_of old m))
  where
    module _ (keeps : KeepsValues new (record_of old m)) (o : ℕ) (l : o < m.count) where
      abbrev t : ℕ
      t = get_or m.types o 0

      abbrev name : Name
      name = (type_at old t).name

      under : o < object_count (record_of old m)
      under = subst (λ (k : ℕ). o < k) (sym (written_count old m)) l

      typed : Typed (site_of (record_of old m)) o name
      typed = subst (Typed (site_of (record_of old m)) o) (written-object old m o l) (record-typed (record_of old m) o)

      -- ---- rule 1

      type-kept : type_kept old new t ≡ true
      unfolding type_kept rule1
      type-kept = sym (rule1-alone new (site_of (record_of old m)) o name typed) ∙ all-at (rule1_at new (site_of (record_of old m))) _ keeps.first o (in-site under)
        where
          in-site : o < object_count (record_of old m) → o < (site_of (record_of old m)).count
          in-site k = unfold site_of in k

      -- ---- rule 3

      has-old : (w : Name) → has_value (record_of old m) o w ≡ declared old (alone name) 0 w
      has-old w = has-declared old (record_of old m) legal o w under ∙ ap (λ (v : Name). declared old (alone v) 0 w) (written-object old m o l)

      object-asked : rule3_at new (site_of (record_of old m)) o ≡ true
      unfolding rule3 site_of
      object-asked = all-at (rule3_at new (site_of (record_of old m))) (object_count (record_of old m)) keeps.third o under

      -- a name that is asked
      asked-name : (w : Name) → rule3_for new (site_of (record_of old m)) o w ≡ true → has_value (record_of old m) o w ≡ declared new (alone name) 0 w
      unfolding rule3_for site_of
      asked-name w e =
          let p = (same-iff (has_value (record_of old m) o w) (declared new (site_of (record_of old m)) o w)).0 e in
          same_test _ _ p.0 p.1 ∙ declared-alone new (site_of (record_of old m)) o name typed w

      new-asked : (a : ℕ) → a < length new.attributes → rule3_for new (site_of (record_of old m)) o (attribute_at new a).name ≡ true
      unfolding rule3_at
      new-asked a k = all-at _ (length new.attributes) (both_left _ _ object-asked) a k

      value-asked : (i : ℕ) → i < length (record_of old m).values → rule3_for new (site_of (record_of old m)) o (value_at (record_of old m) i).attribute ≡ true
      unfolding rule3_at site_of
      value-asked i k = all-at (λ j. rule3_for new (site_of (record_of old m)) o (value_at (record_of old m) j).attribute) (length (record_of old m).values) (both_right _ _ object-asked) i k

      name-same : (w : Name) → declared old (alone name) 0 w ≡ declared new (alone name) 0 w
      name-same w = same_test _ _ forth back
        where
          forth : declared old (alone name) 0 w ≡ true → declared new (alone name) 0 w ≡ true
          forth e = unfold has_value in
              let i = any_at _ (length (record_of old m).values) (has-old w ∙ e) in
              let q : key (value_at (record_of old m) i.0).attribute ≡ key w = same_key _ _ (both_right _ _ i.2) in
              sym (asked-name w (sym (rule3-alike new (record_of old m) o _ _ q) ∙ value-asked i.0 i.1)) ∙ (has-old w ∙ e)

          back : declared new (alone name) 0 w ≡ true → declared old (alone name) 0 w ≡ true
          back e = unfold declared declares in
              let a = any_at _ (length new.attributes) e in
              let q : key (attribute_at new a.0).name ≡ key w = same_key _ _ (both_right _ _ a.2) in
              sym (has-old w) ∙ (asked-name w (sym (rule3-alike new (record_of old m) o _ _ q) ∙ new-asked a.0 a.1) ∙ e)

      name-kept : (w : Name) → name_kept old new t w ≡ true
      unfolding name_kept
      name-kept w =
          (same-iff (declared old (alone name) 0 w) (declared new (alone name) 0 w)).1 ((λ h. sym (name-same w) ∙ h), (λ h. name-same w ∙ h))

      names-kept : names_kept old new t ≡ true
      unfolding names_kept
      names-kept = both_of _ _ (all_of _ (length old.attributes) (λ a k. name-kept _)) (all_of _ (length new.attributes) (λ a k. name-kept _))

      -- ---- rule 4

      -- each value that is written keeps it
      written-kept : (x : ℕ) → x < m.count * 32 → value_on old m x ≡ true → rule4_at new (site_of (record_of old m)) (value_is old m x) ≡ true
      unfolding rule4 site_of record_of
      written-kept x k on =
          ⊎_elim (λ e. e)
          (λ e.
          let test : Value → Bool = λ v. not (rule4_at new (site_of (record_of old m)) v) in
          let some : any (λ i. test (value_at (record_of old m) i)) (length (record_of old m).values) ≡ true =
          any-picked test (value_on old m) (value_is old m) (record { object = 0; attribute = []; value_type = []; constant = [] }) (m.count * 32)
          ∙ any_of (λ i. value_on old m i && test (value_is old m i)) (m.count * 32) x k (and_both (value_on old m x) (test (value_is old m x)) on (ap not e)) in
          let i = any_at (λ i. test (value_at (record_of old m) i)) (length (record_of old m).values) some in
          absurd (true-false (all-at (λ j. rule4_at new (site_of (record_of old m)) (value_at (record_of old m) j)) (length (record_of old m).values) keeps.fourth i.0 i.1) (not-true _ i.2)))
          (known (rule4_at new (site_of (record_of old m)) (value_is old m x)))

      -- the value in slot s is written at the slot's place
      module _ (s x : ℕ) (at : x / 32 ≡ o) (place : attribute_place old (x % 32) ≡ s) where
        value-at : value_in m (x / 32) (attribute_place old (x % 32)) ≡ value_in m o s
        value-at = ap₂ (value_in m) at place

        value-on : s < length old.attributes → value_in m o s ≢ 0 → value_on old m x ≡ true
        unfolding value_on
        value-on k some =
            both_of _ _ (ap (λ (i : ℕ). ltb i (length old.attributes)) place ∙ lt-ltb _ _ k) (ap not (ne_eqb _ 0 (λ z. some (sym value-at ∙ z))))

        value-is : (k : ℕ) → value_in m o s ≡ 1 + k → rule4_at new (site_of (record_of old m)) (value_is old m x) ≡ rule4_at new (alone name) (coded_value old s k)
        unfolding value_is coded_value
        value-is k e =
            let q : value_in m (x / 32) (attribute_place old (x % 32)) ≡ value_in m o s = value-at in
            let c : value_in m (x / 32) (attribute_place old (x % 32)) - 1 ≡ k = omega arith in
            rule4-alone new (site_of (record_of old m)) name (value_is old m x) (coded_value old s k) (subst (λ (i : ℕ). Typed (site_of (record_of old m)) i name) (sym at) typed)
            (ap (λ (i : ℕ). key (attribute_at old i).name) place) (ap (λ (i : ℕ). key (value_type_at old (i / 8)).name) c) (ap (λ (i : ℕ). key (get_or (value_type_at old (i / 8)).constants (i % 8) [])) c)

      -- it is the chosen one
      chosen-kept : (s : ℕ) → s < length old.attributes → due old t s ≢ 0 → rule4_at new (alone name) (coded_value old s (chosen_code old new (due old t s - 1))) ≡ true
      chosen-kept s k d = go (attribute-placed old s own)
        where
          own : own_attribute old s ≡ true
          own = unfold own_attribute in both_of _ _ (lt-ltb _ _ k) (eq-eqb _ _ (due-own old wold t s d))

          value : value_in m o s ≡ 1 + chosen_code old new (due old t s - 1)
          value = filled-some old new wold wnew types links n m few filled usable o s l (let h = wold.few-attributes in let q : s < 32 = omega arith in q) d

          some : value_in m o s ≢ 0
          some z = let e = value in omega arith

          go : (p : ℕ) × (p < length old.attributes) × (attribute_place old p ≡ s) → rule4_at new (alone name) (coded_value old s (chosen_code old new (due old t s - 1))) ≡ true
          go p =
              let h = wold.few-attributes in
              let small : p.0 < 32 = let b : p.0 < length old.attributes = p.1 in omega arith in
              let x : ℕ = o * 32 + p.0 in
              let at : (o * 32 + p.0) / 32 ≡ o = omega arith in
              let rest : (o * 32 + p.0) % 32 ≡ p.0 = omega arith in
              let place : attribute_place old ((o * 32 + p.0) % 32) ≡ s = ap (attribute_place old) rest ∙ p.2 in
              let below : o * 32 + p.0 < m.count * 32 = omega arith in
              sym (value-is s (o * 32 + p.0) at place (chosen_code old new (due old t s - 1)) value)
              ∙ written-kept (o * 32 + p.0) below (value-on s (o * 32 + p.0) at place k some)

      code-kept : (s k : ℕ) → s < length old.attributes → allowed old t s k ≡ true → rule4_at new (alone name) (coded_value old s k) ≡ true
      unfolding allowed
      code-kept s k h a =
          let e : due old t s ≡ 1 + k / 8 = eqb-true _ _ (both_left _ _ a) in
          let d : due old t s ≢ 0 = λ z. omega arith in
          let v : due old t s - 1 ≡ k / 8 = omega arith in
          chosen-worst old new wold wnew t s k (filled-type old new wold wnew types links n m few filled usable o l) (both_right _ _ a)
          (subst (λ (i : ℕ). rule4_at new (alone name) (coded_value old s (chosen_code old new i)) ≡ true) v (chosen-kept s h d))

      codes-kept : codes_kept old new t ≡ true
      unfolding codes_kept code_kept
      codes-kept = all_of _ (length old.attributes) (λ s h. all_of _ 96 (λ k small. imp-of _ _ (code-kept s k h)))

      -- so its type is not bad
      kept-good : bad_by old new t ≡ false
      unfolding bad_by
      kept-good = ap not (both_of _ _ type-kept (both_of _ _ names-kept codes-kept))

    -- an object of a bad type: one of the three rules is broken
    pub filled-breaks : (o : ℕ) → o < m.count → bad_by old new (get_or m.types o 0) ≡ true → KeepsValues new (record_of old m) → ⊥
    filled-breaks o l bad keeps = true-false bad (kept-good keeps o l)
