-- The names of a value have its code: no other value type has the name, and no other constant of it.
-- Assumes nothing.
use Prim.Native.Nat.{◌%◌, ◌/◌, ◌<◌, ◌≤◌, ℕ}
use native.Mathlib.Omega.{arith}
use mathlib.Core.Bool.{true}
use mathlib.Core.List.{List, []}
use mathlib.Core.Logic.{◌⊎◌, inl, inr, ⊎_elim}
use mathlib.Core.Path.{◌∙◌, ◌≡◌, ap, subst, sym}
use lib.Dec.{eqb, ltb}
use lib.ListN.{get_or-eq_default, get_or, length}
use borrow.Author.Tests.{eq-eqb, eqb-true, lt-ltb, ltb-true, not-true}
use Rattle.laws.specs.Connective.{both}
use Rattle.laws.proofs.BoundedLaws.{all-at, any-no}
use Rattle.laws.proofs.ConnectiveLaws.{both_left, both_of, both_right, either-cases, either_left, either-right}
use Rattle.laws.proofs.FirstLaws.{first_below}
use Rattle.files.specs.Diagram.{Diagram, ValueType, value_type_at}
use Rattle.files.specs.Name.{Name, differ, key, same_name}
use Rattle.files.specs.WellFormedDiagram.{WfDiagram}
use Rattle.files.proofs.NameLaws.{differ-once, same_self}
use Rattle.records.specs.Slots.{code_of, is_code, is_constant}
use Rattle.records.specs.Written.{IsValue}
use Rattle.records.proofs.SlotLaws.{code-value}
use Rattle.memory_rules.proofs.CodeLaws.{code-constant, code_holds, code-type}

-- listed names that differ have one key at one index only
listed-once : (ws : List Name) (i j : ℕ) → differ ws ≡ true → i < length ws → j < length ws → key (get_or ws i []) ≡ key (get_or ws j []) → i ≡ j
unfolding differ
listed-once ws i j d = differ-once (λ i. get_or ws i []) (length ws) (λ i j l k. any-no _ j (not-true _ (all-at _ (length ws) d j k)) i l) i j

module _ (d : Diagram) (wf : WfDiagram d) where
  self_code : (k : ℕ) → IsValue d k → is_code d (value_type_at d (k / 8)).name (get_or (value_type_at d (k / 8)).constants (k % 8) []) k ≡ true
  unfolding is_code is_constant
  self_code k v =
      both_of _ _ (lt-ltb _ _ v.type-known) (both_of _ _ (same_self (value_type_at d (k / 8)).name)
      (⊎_elim (λ a. either_left _ _ (both_of _ _ a (same_self _)))
      (λ b. either-right _ _ (both_of _ _ (both_left _ _ b) (both_of _ _ (both_right _ _ b) (eq-eqb _ 0 (none b)))))
      (either-cases _ _ v.constant-known)))
    where
      none : both (eqb (length (value_type_at d (k / 8)).constants) 0) (eqb (k % 8) 0) ≡ true → length (get_or (value_type_at d (k / 8)).constants (k % 8) []) ≡ 0
      none b =
          let z : length (value_type_at d (k / 8)).constants ≡ 0 = eqb-true _ _ (both_left _ _ b) in
          let past : length (value_type_at d (k / 8)).constants ≤ k % 8 = omega arith in
          ap length (get_or-eq_default (value_type_at d (k / 8)).constants [] past)

  -- constants of one code's value type: the one with this name, or the unnamed value
  constant-once : (t : ValueType) → differ t.constants ≡ true → (i j : ℕ) (c : Name) → is_constant t i c ≡ true → is_constant t j c ≡ true → key (get_or t.constants i []) ≡ key (get_or t.constants j []) → i ≡ j
  unfolding is_constant
  constant-once t w i j c a b e = go (either-cases _ _ a) (either-cases _ _ b)
    where
      go : (both (ltb i (length t.constants)) (same_name (get_or t.constants i []) c) ≡ true) ⊎ (both (eqb (length t.constants) 0) (both (eqb i 0) (eqb (length c) 0)) ≡ true)
          → (both (ltb j (length t.constants)) (same_name (get_or t.constants j []) c) ≡ true) ⊎ (both (eqb (length t.constants) 0) (both (eqb j 0) (eqb (length c) 0)) ≡ true) → i ≡ j
      go (inl p) (inl q) = listed-once t.constants i j w (ltb-true _ _ (both_left _ _ p)) (ltb-true _ _ (both_left _ _ q)) e
      go (inl p) (inr q) =
          let l : i < length t.constants = ltb-true _ _ (both_left _ _ p) in
          let z : length t.constants ≡ 0 = eqb-true _ _ (both_left _ _ q) in
          absurd (omega arith)
      go (inr p) (inl q) =
          let l : j < length t.constants = ltb-true _ _ (both_left _ _ q) in
          let z : length t.constants ≡ 0 = eqb-true _ _ (both_left _ _ p) in
          absurd (omega arith)
      go (inr p) (inr q) =
          let y : i ≡ 0 = eqb-true _ _ (both_left _ _ (both_right _ _ p)) in
          let z : j ≡ 0 = eqb-true _ _ (both_left _ _ (both_right _ _ q)) in
          omega arith

  -- the constant of a code
  code-named : (t c : Name) (j : ℕ) → is_code d t c j ≡ true → is_constant (value_type_at d (j / 8)) (j % 8) c ≡ true
  unfolding is_code
  code-named t c j e = both_right _ _ (both_right _ _ e)

  coded : (t c : Name) (k : ℕ) → is_code d t c k ≡ true → code_of d t c < 96
  unfolding code_of
  coded t c k e =
      let few : length d.value_types ≤ 12 = wf.few-value-types in
      let known : k / 8 < length d.value_types = (code-value d t c k e).type-known in
      first_below (is_code d t c) 96 k (omega arith) e

  -- two codes of the same names are one
  code-once : (t c : Name) (j k : ℕ) → is_code d t c j ≡ true → is_code d t c k ≡ true → j ≡ k
  code-once t c j k a b =
      let high : j / 8 ≡ k / 8 = differ-once (λ i. (value_type_at d i).name) (length d.value_types) wf.value-types-differ (j / 8) (k / 8) (code-value d t c j a).type-known (code-value d t c k b).type-known (code-type d wf t c j a ∙ sym (code-type d wf t c k b)) in
      let here : is_constant (value_type_at d (k / 8)) (j % 8) c ≡ true = subst (λ (n : ℕ). is_constant (value_type_at d n) (j % 8) c ≡ true) high (code-named t c j a) in
      let name : key (get_or (value_type_at d (k / 8)).constants (j % 8) []) ≡ key c = subst (λ (n : ℕ). key (get_or (value_type_at d n).constants (j % 8) []) ≡ key c) high (code-constant d wf t c j a) in
      let low : j % 8 ≡ k % 8 = constant-once (value_type_at d (k / 8)) (wf.value-type (k / 8) (code-value d t c k b).type-known).constants-differ (j % 8) (k % 8) c here (code-named t c k b)
      (name ∙ sym (code-constant d wf t c k b)) in
      omega arith

  pub code-self : (k : ℕ) → IsValue d k → code_of d (value_type_at d (k / 8)).name (get_or (value_type_at d (k / 8)).constants (k % 8) []) ≡ k
  code-self k v =
      let t : Name = (value_type_at d (k / 8)).name in
      let c : Name = get_or (value_type_at d (k / 8)).constants (k % 8) [] in
      let e : is_code d t c k ≡ true = self_code k v in
      code-once t c (code_of d t c) k (code_holds d wf t c (coded t c k e)) e
