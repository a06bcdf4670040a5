-- The value that is chosen for a value type: it is one of old, and where new forbids any value of that value type, it forbids this one.
-- Assumes nothing.
use Prim.Native.Nat.{◌*◌, ◌+◌, ◌-◌, ◌/◌, ◌<◌, ◌≤◌, ℕ}
use native.Mathlib.Omega.{arith}
use mathlib.Core.Bool.{Bool, cond, false, true}
use mathlib.Core.Logic.{◌≢◌, ⊎_elim}
use mathlib.Core.Path.{◌∙◌, ◌≡◌, ap, refl, subst, sym}
use lib.Dec.{eqb, ltb}
use lib.ListN.{length}
use borrow.Author.Tests.{eqb-false, eqb-true, lt-ltb, ltb-false, ltb-true, not-true}
use Rattle.laws.specs.Connective.{both}
use Rattle.laws.proofs.ConnectiveLaws.{both_left, both_of, both_right, known, true-false}
use Rattle.files.specs.Diagram.{Diagram, attribute_at, type_at}
use Rattle.files.specs.Name.{Name}
use Rattle.files.specs.WellFormedDiagram.{WfDiagram}
use Rattle.records.specs.Written.{IsValue, constant_known}
use Rattle.rules.specs.ValueRules.{rule4_at}
use Rattle.type_values.specs.Bad.{alone, coded_value}
use Rattle.type_values.specs.Filled.{chosen, chosen_code}
use Rattle.type_values.specs.Lacking.{first_lacking, same_type, shared}
use Rattle.type_values.specs.Named.{due_named, fits_due}
use Rattle.type_values.proofs.KeptLaws.{asked_of, fits-part, kept-code}
use Rattle.type_values.proofs.NamedLaws.{named-due}
use Rattle.type_values.proofs.SharedLaws.{belongs-shared, coded-same, first-known, first-lacks, lacking-most}

module _ (old new : Diagram) (wold : WfDiagram old) (wnew : WfDiagram new) where
  -- the constant
  chosen-lacking : (v : ℕ) → first_lacking old new v < 8 → chosen_code old new v ≡ v * 8 + first_lacking old new v
  unfolding chosen_code
  chosen-lacking v l = ap (λ (b : Bool). v * 8 + cond b (first_lacking old new v) 0) (lt-ltb _ _ l)

  chosen-first : (v : ℕ) → ltb (first_lacking old new v) 8 ≡ false → chosen_code old new v ≡ v * 8 + 0
  unfolding chosen_code
  chosen-first v l = ap (λ (b : Bool). v * 8 + cond b (first_lacking old new v) 0) l

  pub chosen-type : (v : ℕ) → chosen_code old new v / 8 ≡ v
  chosen-type v =
      ⊎_elim
      (λ l. let small : first_lacking old new v < 8 = ltb-true _ _ l in let e : chosen_code old new v ≡ v * 8 + first_lacking old new v = chosen-lacking v small in omega arith)
      (λ l. let e : chosen_code old new v ≡ v * 8 + 0 = chosen-first v l in omega arith) (known (ltb (first_lacking old new v) 8))

  pub chosen-constant : (v : ℕ) → constant_known old (chosen_code old new v) ≡ true
  chosen-constant v =
      ⊎_elim
      (λ l.
      let small : first_lacking old new v < 8 = ltb-true _ _ l in
      subst (λ (k : ℕ). constant_known old k ≡ true) (sym (chosen-lacking v small)) (first-lacks old new wnew v small).0)
      (λ l.
      let e : chosen_code old new v ≡ v * 8 + 0 = chosen-first v l in
      let q : v * 8 ≡ chosen_code old new v = omega arith in
      subst (λ (k : ℕ). constant_known old k ≡ true) q (first-known old v)) (known (ltb (first_lacking old new v) 8))

  pub chosen-value : (v : ℕ) → v < length old.value_types → IsValue old (chosen_code old new v)
  chosen-value v l = record { type-known = subst (λ (i : ℕ). i < length old.value_types) (sym (chosen-type v)) l; constant-known = chosen-constant v }

  -- ---- where e is asked for

  pub chosen_none : (e : ℕ) → e ≡ 0 → chosen old new e ≡ 0
  unfolding chosen both
  chosen_none e z = rw z refl

  pub chosen-some : (e : ℕ) → e ≢ 0 → e - 1 < length old.value_types → chosen old new e ≡ 1 + chosen_code old new (e - 1)
  unfolding chosen
  chosen-some e n l =
      let few = wold.few-value-types in
      let low : 0 < e = omega arith in
      let high : e < 13 = omega arith in
      ap (λ (b : Bool). cond b (1 + chosen_code old new (e - 1)) 0) (both_of _ _ (lt-ltb 0 e low) (lt-ltb e 13 high))

  -- ---- new forbids it where it forbids any

  -- a chosen value that new has: new lacks none
  chosen-shared : (v : ℕ) → shared old new (chosen_code old new v) ≡ true → first_lacking old new v ≡ 8
  chosen-shared v h =
      ⊎_elim
      (λ l.
      let small : first_lacking old new v < 8 = ltb-true _ _ l in
      absurd (true-false (subst (λ (k : ℕ). shared old new k ≡ true) (chosen-lacking v small) h) (first-lacks old new wnew v small).1))
      (λ l. let past : 8 ≤ first_lacking old new v = ltb-false _ _ l in let most = lacking-most old new wnew v in omega arith) (known (ltb (first_lacking old new v) 8))

  pub chosen-worst : (t s k : ℕ) → t < length old.types → constant_known old k ≡ true
      → rule4_at new (alone (type_at old t).name) (coded_value old s (chosen_code old new (k / 8))) ≡ true → rule4_at new (alone (type_at old t).name) (coded_value old s k) ≡ true
  chosen-worst t s k l c h = ⊎_elim (λ z. asked_of old new wold wnew t l s k ∙ ap (fits_due new (coded_value old s k)) (eqb-true _ _ z) ∙ nothing) some (known (eqb f 0))
    where
      name : Name
      name = (type_at old t).name

      f : ℕ
      f = due_named new name (attribute_at old s).name

      nothing : fits_due new (coded_value old s k) 0 ≡ true
      nothing = unfold fits_due in refl

      some : eqb f 0 ≡ false → rule4_at new (alone name) (coded_value old s k) ≡ true
      some z =
          let v : ℕ = k / 8 in
          let n : f ≢ 0 = eqb-false _ _ z in
          let p = sym (fits-part new (coded_value old s (chosen_code old new v)) f n) ∙ sym (asked_of old new wold wnew t l s (chosen_code old new v)) ∙ h in
          let below : f - 1 < length new.value_types = (named-due new wnew name (attribute_at old s).name).type-known n (eqb-false _ 255 (not-true _ (both_left _ _ p))) in
          let e : same_type old new v ≡ f - 1 = ap (same_type old new) (sym (chosen-type v)) ∙ coded-same old new wnew s (chosen_code old new v) (f - 1) below (both_right _ _ p) in
          kept-code old new wold wnew t l s k (let q : f ≡ 1 + same_type old new v = omega arith in q)
          (chosen-shared v (belongs-shared old new wnew s (chosen_code old new v) (f - 1) below (both_right _ _ p))) c
