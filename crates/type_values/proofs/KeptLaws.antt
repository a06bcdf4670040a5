-- Rules 3 and 4 of new for an object of old's type t, by slots: both diagrams declare the same names exactly when what is due by one
-- is due by the other, and each value that old allows belongs to new's declarations exactly when new's value type of the same name
-- is due and lacks none.
-- Assumes nothing.
use Prim.Native.Nat.{◌%◌, ◌*◌, ◌+◌, ◌-◌, ◌/◌, ◌<◌, ℕ}
use native.Mathlib.Omega.{arith}
use mathlib.Core.Bool.{Bool, cond, false, not, true}
use mathlib.Core.Logic.{◌≢◌, ⊎_elim}
use mathlib.Core.Path.{◌∙◌, ◌≡◌, ap, subst, sym}
use lib.Dec.{eqb}
use lib.ListN.{length}
use borrow.Author.Tests.{eq-eqb, eqb-false, eqb-true, ne_eqb, not-true}
use Rattle.laws.specs.Bounded.{all}
use Rattle.laws.specs.Connective.{both, either}
use Rattle.laws.proofs.BoundedLaws.{all-at, all_of, any_at}
use Rattle.laws.proofs.ConnectiveLaws.{both_left, both_of, both_right, either-cases, either_left, either-right, imp-of, imp_use, known, same_test}
use Rattle.laws.proofs.ForallLaws.{same-iff}
use Rattle.files.specs.Diagram.{Diagram, attribute_at, type_at, value_type_at}
use Rattle.files.specs.Name.{Name, key}
use Rattle.files.specs.Record.{Value}
use Rattle.files.specs.WellFormedDiagram.{WfDiagram}
use Rattle.records.specs.Slots.{attribute_slot, type_index}
use Rattle.records.specs.Written.{constant_known}
use Rattle.records.proofs.SlotLaws.{attribute-alike, attribute-below, attribute-name}
use Rattle.rules.specs.ValueRules.{belongs, declared, rule4_at}
use Rattle.type_tables.specs.Due.{declares_for, due}
use Rattle.type_values.specs.Bad.{allowed, alone, code_kept, coded_value, codes_kept, name_kept, names_kept}
use Rattle.type_values.specs.Lacking.{due_kept, first_lacking, same_type, shared, slot_asked, slot_kept}
use Rattle.type_values.specs.Named.{due_named, fits_due}
use Rattle.type_values.proofs.JoinedLaws.{due-declared, due-known}
use Rattle.type_values.proofs.NamedLaws.{named-alike, named-declared, named-due, named-fits, named-known, named-own, named-slot}
use Rattle.type_values.proofs.SharedLaws.{belongs-shared, coded-same, first-known, lacks-none, none-lacking, same-most, same-shares}

-- something is due in the slots only that are a name's own
pub due-own : (d : Diagram) → WfDiagram d → (t s : ℕ) → due d t s ≢ 0 → attribute_slot d (attribute_at d s).name ≡ s
unfolding declares_for
due-own d wf t s n =
    let a = any_at _ (length d.attributes) (due-declared d wf t s ∙ ap not (ne_eqb _ _ n)) in
    let e : attribute_slot d (attribute_at d a.0).name ≡ s = eqb-true _ _ (both_right _ _ a.2) in
    attribute-alike d _ _ (ap (λ (i : ℕ). key (attribute_at d i).name) (sym e) ∙ attribute-name d (attribute_at d a.0).name (attribute-below d a.0 a.1)) ∙ e

-- ---- what is asked and what fits, in parts

pub fits-part : (d : Diagram) (v : Value) (e : ℕ) → e ≢ 0 → fits_due d v e ≡ both (not (eqb e 255)) (belongs v (value_type_at d (e - 1)))
unfolding fits_due
fits-part d v e n = ap (λ (b : Bool). cond b true (both (not (eqb e 255)) (belongs v (value_type_at d (e - 1))))) (ne_eqb e 0 n)

kept-part : (old new : Diagram) (e f : ℕ) → e ≢ 0
    → due_kept old new e f ≡ both (not (eqb f 0)) (either (eqb e 255) (both (eqb f (1 + same_type old new (e - 1))) (eqb (first_lacking old new (e - 1)) 8)))
unfolding due_kept
kept-part old new e f n =
    ap (λ (b : Bool). cond b true (both (not (eqb f 0)) (either (eqb e 255) (both (eqb f (1 + same_type old new (e - 1))) (eqb (first_lacking old new (e - 1)) 8))))) (ne_eqb e 0 n)

kept-none : (old new : Diagram) (e f : ℕ) → e ≡ 0 → due_kept old new e f ≡ true
unfolding due_kept
kept-none old new e f z =
    ap (λ (b : Bool). cond b true (both (not (eqb f 0)) (either (eqb e 255) (both (eqb f (1 + same_type old new (e - 1))) (eqb (first_lacking old new (e - 1)) 8))))) (eq-eqb e 0 z)

module _ (old new : Diagram) (wold : WfDiagram old) (wnew : WfDiagram new) (t : ℕ) (is-type : t < length old.types) where
  abbrev name : Name
  name = (type_at old t).name

  abbrev type : ℕ
  type = type_index new name

  abbrev due_old : Name → ℕ
  due_old w = due_named old name w

  abbrev due_new : Name → ℕ
  due_new w = due_named new name w

  -- ---- names

  -- each of both asks for the same names
  record Alike : Type 0 where
    kept : (w : Name) → due_old w ≢ 0 → due_new w ≢ 0
    asked : (w : Name) → due_new w ≢ 0 → due_old w ≢ 0

  test-some : (e : ℕ) → not (eqb e 0) ≡ true → e ≢ 0
  test-some e h = eqb-false e 0 (not-true _ h)

  some-test : (e : ℕ) → e ≢ 0 → not (eqb e 0) ≡ true
  some-test e n = ap not (ne_eqb e 0 n)

  alike-name : Alike → (w : Name) → name_kept old new t w ≡ true
  unfolding name_kept
  alike-name h w =
      let p = named-declared old wold name w in
      let q = named-declared new wnew name w in
      (same-iff (declared old (alone name) 0 w) (declared new (alone name) 0 w)).1
      ((λ e. q ∙ some-test _ (h.kept w (test-some _ (sym p ∙ e)))), (λ e. p ∙ some-test _ (h.asked w (test-some _ (sym q ∙ e)))))

  alike-names : Alike → names_kept old new t ≡ true
  unfolding names_kept
  alike-names h = both_of _ _ (all_of _ (length old.attributes) (λ a l. alike-name h _)) (all_of _ (length new.attributes) (λ a l. alike-name h _))

  name-kept : (w : Name) → name_kept old new t w ≡ true → (due_old w ≢ 0 → due_new w ≢ 0) × (due_new w ≢ 0 → due_old w ≢ 0)
  unfolding name_kept
  name-kept w h =
      let p = named-declared old wold name w in
      let q = named-declared new wnew name w in
      let e = (same-iff (declared old (alone name) 0 w) (declared new (alone name) 0 w)).0 h in
      ((λ n. test-some _ (sym q ∙ e.0 (p ∙ some-test _ n))), (λ n. test-some _ (sym p ∙ e.1 (q ∙ some-test _ n))))

  -- what is due for a name is due in its slot
  old-slot : (s : ℕ) → due old t s ≢ 0 → due_old (attribute_at old s).name ≡ due old t s
  old-slot s n = named-own old wold t is-type (attribute_at old s).name ∙ ap (due old t) (due-own old wold t s n)

  -- ---- values

  -- what is asked of the value with code k
  pub asked_of : (s k : ℕ) → rule4_at new (alone name) (coded_value old s k) ≡ fits_due new (coded_value old s k) (due_new (attribute_at old s).name)
  unfolding coded_value
  asked_of s k = named-fits new wnew name (coded_value old s k)

  -- new asks for the value type of the same name, which lacks none
  pub kept-code : (s k : ℕ) → due_new (attribute_at old s).name ≡ 1 + same_type old new (k / 8) → first_lacking old new (k / 8) ≡ 8 → constant_known old k ≡ true
      → rule4_at new (alone name) (coded_value old s k) ≡ true
  kept-code s k e f c =
      let few = wnew.few-value-types in
      let most = same-most old new wnew (k / 8) in
      let n : due_new (attribute_at old s).name ≢ 0 = λ z. omega arith in
      let m : due_new (attribute_at old s).name ≢ 255 = λ z. omega arith in
      let i : due_new (attribute_at old s).name - 1 ≡ same_type old new (k / 8) = omega arith in
      let l : same_type old new (k / 8) < length new.value_types = subst (λ (j : ℕ). j < length new.value_types) i ((named-due new wnew name (attribute_at old s).name).type-known n m) in
      let split : k / 8 * 8 + k % 8 ≡ k = omega arith in
      let small : k % 8 < 8 = omega arith in
      let h : shared old new k ≡ true = subst (λ (j : ℕ). shared old new j ≡ true) split
      (none-lacking old new wnew (k / 8) (k % 8) f small (subst (λ (j : ℕ). constant_known old j ≡ true) (sym split) c)) in
      asked_of s k ∙ fits-part new _ _ n
      ∙ both_of _ _ (ap not (ne_eqb _ _ m)) (ap (λ (j : ℕ). belongs (coded_value old s k) (value_type_at new j)) i ∙ same-shares old new wnew s k l h)

  -- and back: by each value that old allows
  module _ (s v : ℕ) (v-known : v < length old.value_types) (n : due_new (attribute_at old s).name ≢ 0)
      (each : (c : ℕ) → c < 8 → constant_known old (v * 8 + c) ≡ true → rule4_at new (alone name) (coded_value old s (v * 8 + c)) ≡ true)
    where
      code-part : (c : ℕ) → c < 8 → constant_known old (v * 8 + c) ≡ true
          → both (not (eqb (due_new (attribute_at old s).name) 255)) (belongs (coded_value old s (v * 8 + c)) (value_type_at new (due_new (attribute_at old s).name - 1))) ≡ true
      code-part c l h = sym (fits-part new _ _ n) ∙ sym (asked_of s (v * 8 + c)) ∙ each c l h

      zero-part : (v * 8 + 0) ≡ v * 8
      zero-part = omega arith

      first_part : both (not (eqb (due_new (attribute_at old s).name) 255)) (belongs (coded_value old s (v * 8 + 0)) (value_type_at new (due_new (attribute_at old s).name - 1))) ≡ true
      first_part = code-part 0 (let l : 0 < 8 = omega arith in l) (subst (λ (k : ℕ). constant_known old k ≡ true) (sym zero-part) (first-known old v))

      below : due_new (attribute_at old s).name - 1 < length new.value_types
      below = (named-due new wnew name (attribute_at old s).name).type-known n (eqb-false _ 255 (not-true _ (both_left _ _ first_part)))

      codes-type : due_new (attribute_at old s).name ≡ 1 + same_type old new v
      codes-type =
          let a : (v * 8 + 0) / 8 ≡ v = omega arith in
          let e : same_type old new v ≡ due_new (attribute_at old s).name - 1 = ap (same_type old new) (sym a) ∙ coded-same old new wnew s (v * 8 + 0) _ below (both_right _ _ first_part) in
          omega arith

      codes-lack : first_lacking old new v ≡ 8
      codes-lack = lacks-none old new wnew v (λ c l h. belongs-shared old new wnew s (v * 8 + c) _ below (both_right _ _ (code-part c l h)))

  -- ---- from slots to names and values

  module _ (there : type < length new.types)
      (slots : (s : ℕ) → s < length old.attributes → slot_kept old new t type s ≡ true)
      (added : (s : ℕ) → s < length new.attributes → slot_asked old new t type s ≡ true)
    where
      slot-part : (s : ℕ) → s < length old.attributes → due old t s ≢ 0
          → both (not (eqb (due_new (attribute_at old s).name) 0))
          (either (eqb (due old t s) 255) (both (eqb (due_new (attribute_at old s).name) (1 + same_type old new (due old t s - 1))) (eqb (first_lacking old new (due old t s - 1)) 8)))
          ≡ true
      unfolding slot_kept
      slot-part s l n = sym (kept-part old new _ _ n) ∙ slots s l

      alike : Alike
      unfolding slot_asked
      alike = record {
        kept = λ w n.
            let l = named-slot old wold name w n in
            let e : due old t (attribute_slot old w) ≢ 0 = λ z. n (named-own old wold t is-type w ∙ z) in
            subst (λ (n : ℕ). n ≢ 0) (named-alike new name _ _ (attribute-name old w l)) (test-some _ (both_left _ _ (slot-part (attribute_slot old w) l e)));
        asked = λ w n.
            let l = named-slot new wnew name w n in
            let e : due new type (attribute_slot new w) ≢ 0 = λ z. n (named-known new wnew name there w ∙ z) in
            subst (λ (n : ℕ). n ≢ 0) (named-alike old name _ _ (attribute-name new w l)) (test-some _ (imp_use _ _ (added (attribute_slot new w) l) (some-test _ e)));
      }

      slots-code : (s k : ℕ) → s < length old.attributes → k < 96 → allowed old t s k ≡ true → rule4_at new (alone name) (coded_value old s k) ≡ true
      unfolding allowed
      slots-code s k l small a =
          let e : due old t s ≡ 1 + k / 8 = eqb-true _ _ (both_left _ _ a) in
          let n : due old t s ≢ 0 = λ z. omega arith in
          let i : due old t s - 1 ≡ k / 8 = omega arith in
          ⊎_elim (λ z. let q : due old t s ≡ 255 = eqb-true _ _ z in absurd (omega arith))
          (λ p.
          kept-code s k (eqb-true _ _ (both_left _ _ p) ∙ ap (λ (j : ℕ). 1 + same_type old new j) i) (ap (first_lacking old new) (sym i) ∙ eqb-true _ _ (both_right _ _ p)) (both_right _ _ a))
          (either-cases _ _ (both_right _ _ (slot-part s l n)))

      pub slots-keep : both (names_kept old new t) (codes_kept old new t) ≡ true
      unfolding codes_kept code_kept
      slots-keep =
          both_of _ _ (alike-names alike)
          (all_of _ (length old.attributes) (λ s l. all_of _ 96 (λ k small. imp-of _ _ (slots-code s k l small))))

  -- ---- and back

  module _ (there : type < length new.types) (kept : both (names_kept old new t) (codes_kept old new t) ≡ true) where
    old-kept : (s : ℕ) → s < length old.attributes → (due_old (attribute_at old s).name ≢ 0 → due_new (attribute_at old s).name ≢ 0)
    unfolding names_kept
    old-kept s l = (name-kept _ (all-at _ (length old.attributes) (both_left _ _ (both_left _ _ kept)) s l)).0

    new-kept : (s : ℕ) → s < length new.attributes → (due_new (attribute_at new s).name ≢ 0 → due_old (attribute_at new s).name ≢ 0)
    unfolding names_kept
    new-kept s l = (name-kept _ (all-at _ (length new.attributes) (both_right _ _ (both_left _ _ kept)) s l)).1

    code-kept : (s k : ℕ) → s < length old.attributes → k < 96 → allowed old t s k ≡ true → rule4_at new (alone name) (coded_value old s k) ≡ true
    unfolding codes_kept code_kept
    code-kept s k l small a = imp_use _ _ (all-at _ 96 (all-at _ (length old.attributes) (both_right _ _ kept) s l) k small) a

    keeps-slot : (s : ℕ) → s < length old.attributes → slot_kept old new t type s ≡ true
    unfolding slot_kept
    keeps-slot s l = ⊎_elim (λ z. kept-none old new _ _ (eqb-true _ _ z)) some (known (eqb (due old t s) 0))
      where
        some : eqb (due old t s) 0 ≡ false → due_kept old new (due old t s) (due_new (attribute_at old s).name) ≡ true
        some z =
            let n : due old t s ≢ 0 = eqb-false _ _ z in
            let f : due_new (attribute_at old s).name ≢ 0 = old-kept s l (λ y. n (sym (old-slot s n) ∙ y)) in
            kept-part old new _ _ n ∙ both_of _ _ (some-test _ f) (⊎_elim (either_left _ _) (λ y. either-right _ _ (one n f (eqb-false _ _ y))) (known (eqb (due old t s) 255)))
          where
            one : due old t s ≢ 0 → due_new (attribute_at old s).name ≢ 0 → due old t s ≢ 255
                → both (eqb (due_new (attribute_at old s).name) (1 + same_type old new (due old t s - 1))) (eqb (first_lacking old new (due old t s - 1)) 8) ≡ true
            one n f m =
                let v : ℕ = due old t s - 1 in
                let l₁ : v < length old.value_types = (due-known old wold t s).type-known n m in
                let each = each-code n m l₁ in
                both_of _ _ (eq-eqb _ _ (codes-type s v l₁ f each)) (eq-eqb _ _ (codes-lack s v l₁ f each))
              where
                each-code : due old t s ≢ 0 → due old t s ≢ 255 → due old t s - 1 < length old.value_types → (c : ℕ) → c < 8
                    → constant_known old ((due old t s - 1) * 8 + c) ≡ true → rule4_at new (alone name) (coded_value old s ((due old t s - 1) * 8 + c)) ≡ true
                each-code n m k c small h = unfold allowed in
                    let few = wold.few-value-types in
                    let e : due old t s ≡ 1 + ((due old t s - 1) * 8 + c) / 8 = omega arith in
                    code-kept s ((due old t s - 1) * 8 + c) l (omega arith) (both_of _ _ (eq-eqb _ _ e) h)

    keeps-asked : (s : ℕ) → s < length new.attributes → slot_asked old new t type s ≡ true
    unfolding slot_asked
    keeps-asked s l = imp-of _ _ (λ h.
        let n : due new type s ≢ 0 = test-some _ h in
        let e : due_new (attribute_at new s).name ≡ due new type s = named-known new wnew name there (attribute_at new s).name ∙ ap (due new type) (due-own new wnew type s n) in
        some-test _ (new-kept s l (λ z. n (sym e ∙ z))))

    pub keeps-slots : both (all (slot_kept old new t type) (length old.attributes)) (all (slot_asked old new t type) (length new.attributes)) ≡ true
    keeps-slots = both_of _ _ (all_of _ (length old.attributes) keeps-slot) (all_of _ (length new.attributes) keeps-asked)

  -- ---- so they are one

  pub slots-are : type < length new.types
      → both (all (slot_kept old new t type) (length old.attributes)) (all (slot_asked old new t type) (length new.attributes))
      ≡ both (names_kept old new t) (codes_kept old new t)
  slots-are there =
      same_test _ _
      (λ e. slots-keep there (all-at _ (length old.attributes) (both_left _ _ e)) (all-at _ (length new.attributes) (both_right _ _ e)))
      (keeps-slots there)
