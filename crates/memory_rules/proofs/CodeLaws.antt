-- A value's code decodes to its names, or it has none: then it belongs to no value type of the diagram, and what the code 96
-- decodes to, a value type without a name, belongs to none either.
-- Assumes nothing.
use Prim.Native.Nat.{◌%◌, ◌*◌, ◌+◌, ◌/◌, ◌<◌, ◌≤◌, ℕ}
use native.Mathlib.Decide.{dec_lt}
use native.Mathlib.Omega.{arith}
use mathlib.Core.Bool.{true}
use mathlib.Core.List.{[], ◌∷◌}
use mathlib.Core.Logic.{⊎_elim}
use mathlib.Core.Path.{◌∙◌, ◌≡◌, ap, refl, subst, sym}
use lib.ListN.{get_or-eq_default, get_or, length}
use borrow.Author.Tests.{eq-eqb, eqb-true, leb-true, lt-ltb}
use Rattle.files.specs.Diagram.{Diagram, ValueType, value_type_at}
use Rattle.files.specs.Name.{Name, key, same_name, valid_name}
use Rattle.files.specs.Record.{Value}
use Rattle.files.specs.WellFormedDiagram.{WfDiagram}
use Rattle.records.specs.Slots.{code_of, is_code, is_constant}
use Rattle.rules.specs.ValueRules.{belongs}
use Rattle.rules.proofs.KeyLaws.{belongs-alike}
use Rattle.laws.proofs.BoundedLaws.{any_at}
use Rattle.laws.proofs.ConnectiveLaws.{both_left, both_of, both_right, either-cases, either_left, either-right, same_test}
use Rattle.laws.proofs.FirstLaws.{first_below, first_holds, first-le}
use Rattle.files.proofs.NameLaws.{key-length, same_key}

-- ---- names are not empty

pub name-long : (w : Name) → valid_name w ≡ true → 1 ≤ length w
unfolding valid_name
name-long w h = leb-true 1 (length w) (both_left _ _ (both_left _ _ h))

pub empty-is : (w : Name) → length w ≡ 0 → w ≡ []
empty-is [] e = refl
empty-is (x ∷ xs) e = absurd (omega arith)

-- ---- what belongs to a value type

belongs-name : (v : Value) (t : ValueType) → belongs v t ≡ true → same_name t.name v.value_type ≡ true
unfolding belongs
belongs-name v t e = both_left _ _ e

-- a constant of its type, by an index below 8
constant-at : (v : Value) (t : ValueType) → length t.constants ≤ 8 → belongs v t ≡ true → (i : ℕ) × (i < 8) × (is_constant t i v.constant ≡ true)
unfolding belongs is_constant
constant-at v t few e =
    ⊎_elim
    (λ a. let w = any_at _ (length t.constants) a in (w.0, (let l : w.0 < length t.constants = w.1 in omega arith), either_left _ _ (both_of _ _ (lt-ltb _ _ w.1) w.2)))
    (λ b. (0, omega arith, either-right _ _ (both_of _ _ (both_left _ _ b) (both_of _ _ (eq-eqb 0 0 refl) (both_right _ _ b)))))
    (either-cases _ _ (both_right _ _ e))

-- the constant of an index
constant-is : (t : ValueType) (i : ℕ) (c : Name) → is_constant t i c ≡ true → key (get_or t.constants i []) ≡ key c
unfolding is_constant
constant-is t i c e =
    ⊎_elim (λ a. same_key _ _ (both_right _ _ a))
    (λ b.
    let none : length t.constants ≡ 0 = eqb-true _ _ (both_left _ _ b) in
    let past : length t.constants ≤ i = omega arith in
    ap key (get_or-eq_default t.constants [] past ∙ sym (empty-is c (eqb-true _ _ (both_right _ _ (both_right _ _ b)))))) (either-cases _ _ e)

module _ (d : Diagram) (wf : WfDiagram d) where
  -- a code below 96 decodes to the names
  pub code-type : (t c : Name) (k : ℕ) → is_code d t c k ≡ true → key (value_type_at d (k / 8)).name ≡ key t
  unfolding is_code
  code-type t c k e = same_key _ _ (both_left _ _ (both_right _ _ e))

  pub code-constant : (t c : Name) (k : ℕ) → is_code d t c k ≡ true → key (get_or (value_type_at d (k / 8)).constants (k % 8) []) ≡ key c
  unfolding is_code
  code-constant t c k e = constant-is _ _ _ (both_right _ _ (both_right _ _ e))

  pub code_holds : (t c : Name) → code_of d t c < 96 → is_code d t c (code_of d t c) ≡ true
  unfolding code_of
  code_holds t c l = first_holds (is_code d t c) 96 l

  code-most : (t c : Name) → code_of d t c ≤ 96
  unfolding code_of
  code-most t c = first-le (is_code d t c) 96

  -- a value that belongs to a value type of the diagram has a code
  is-code : (t c : Name) (j i : ℕ) → i < 8 → j < length d.value_types → same_name (value_type_at d j).name t ≡ true → is_constant (value_type_at d j) i c ≡ true → is_code d t c (j * 8 + i) ≡ true
  unfolding is_code
  is-code t c j i l k n e =
      let a : (j * 8 + i) / 8 ≡ j = omega arith in
      let b : (j * 8 + i) % 8 ≡ i = omega arith in
      rw (a, b) (both_of _ _ (lt-ltb _ _ k) (both_of _ _ n e))

  pub belongs-coded : (v : Value) (j : ℕ) → j < length d.value_types → belongs v (value_type_at d j) ≡ true → code_of d v.value_type v.constant < 96
  unfolding code_of
  belongs-coded v j l e =
      let w = constant-at v (value_type_at d j) (wf.value-type j l).few-constants e in
      let few : length d.value_types ≤ 12 = wf.few-value-types in
      let small : w.0 < 8 = w.1 in
      first_below (is_code d v.value_type v.constant) 96 (j * 8 + w.0) (omega arith)
      (is-code v.value_type v.constant j w.0 w.1 l (belongs-name v (value_type_at d j) e) w.2)

  -- nothing named so belongs to a value type of the diagram
  nameless : (v : Value) (j : ℕ) → j < length d.value_types → v.value_type ≡ [] → belongs v (value_type_at d j) ≡ true → ⊥
  nameless v j l n e =
      let long : 1 ≤ length (value_type_at d j).name = name-long _ (wf.value-type j l).named in
      let q : key (value_type_at d j).name ≡ key v.value_type = same_key _ _ (belongs-name v (value_type_at d j) e) in
      let z : length (value_type_at d j).name ≡ 0 = key-length _ _ q ∙ ap length n in
      omega arith

  past-last : (value_type_at d 12).name ≡ []
  past-last = ap (λ (t : ValueType). t.name) (get_or-eq_default d.value_types (record { name = []; constants = [] }) wf.few-value-types)

  -- a value and what its code decodes to belong to the same value types
  pub decoded-belongs : (v u : Value) (k j : ℕ) → k ≡ code_of d v.value_type v.constant → u.value_type ≡ (value_type_at d (k / 8)).name → u.constant ≡ get_or (value_type_at d (k / 8)).constants (k % 8) []
      → j < length d.value_types → belongs u (value_type_at d j) ≡ belongs v (value_type_at d j)
  decoded-belongs v u k j e n c l = go (dec_lt k 96)
    where
      go : Dec (k < 96) → belongs u (value_type_at d j) ≡ belongs v (value_type_at d j)
      go (yes b) =
          let code : is_code d v.value_type v.constant k ≡ true = subst (λ (i : ℕ). is_code d v.value_type v.constant i ≡ true) (sym e) (code_holds v.value_type v.constant (omega arith)) in
          belongs-alike u v (value_type_at d j) (ap key n ∙ code-type v.value_type v.constant k code) (ap key c ∙ code-constant v.value_type v.constant k code)
      go (no b) =
          let twelve : k / 8 ≡ 12 = omega (arith, code-most v.value_type v.constant) in
          same_test _ _ (λ t. absurd (nameless u j l (n ∙ ap (λ (i : ℕ). (value_type_at d i).name) twelve ∙ past-last) t))
          (λ t. let s : code_of d v.value_type v.constant < 96 = belongs-coded v j l t in absurd (omega arith))
