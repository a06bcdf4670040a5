-- Which value types a value's code belongs to: its own one, and none where the code is past the last value type.
-- Assumes nothing.
use Prim.Native.Nat.{◌%◌, ◌/◌, ◌<◌, ◌≤◌, ℕ}
use native.Mathlib.Omega.{arith}
use mathlib.Core.Bool.{false, false≢true, true}
use mathlib.Core.List.{[]}
use mathlib.Core.Logic.{⊎_elim}
use mathlib.Core.Path.{◌∙◌, ◌≡◌, ap, subst, sym}
use lib.Dec.{eqb}
use lib.ListN.{get_or-eq_default, get_or, length}
use borrow.Author.Tests.{eq-eqb, eqb-true, ltb-true, ne_eqb}
use Rattle.laws.specs.Bounded.{any}
use Rattle.laws.specs.Connective.{both, either}
use Rattle.laws.proofs.BoundedLaws.{any_of}
use Rattle.laws.proofs.ConnectiveLaws.{both_left, both_of, either-cases, either_left, either-right, same_test, both-implied}
use Rattle.files.specs.Diagram.{Diagram, ValueType, value_type_at}
use Rattle.files.specs.Name.{Name, same_name}
use Rattle.files.specs.Record.{Value}
use Rattle.files.specs.WellFormedDiagram.{WfDiagram}
use Rattle.files.proofs.NameLaws.{differ_same, key-length, same_key, same_self}
use Rattle.records.specs.Written.{IsValue}
use Rattle.rules.specs.ValueRules.{belongs}
use Rattle.memory_rules.proofs.CodeLaws.{name-long}

module _ (d : Diagram) (wf : WfDiagram d) (v : Value) (t k : ℕ) (known : t < length d.value_types) where
  -- the constants of v's own value type have its constant
  constant-in : IsValue d k → v.constant ≡ get_or (value_type_at d (k / 8)).constants (k % 8) []
      → either (any (λ i. same_name (get_or (value_type_at d (k / 8)).constants i []) v.constant) (length (value_type_at d (k / 8)).constants))
      (both (eqb (length (value_type_at d (k / 8)).constants) 0) (eqb (length v.constant) 0))
      ≡ true
  constant-in is e =
      let cs = (value_type_at d (k / 8)).constants in
      ⊎_elim
      (λ l.
      either_left _ _
      (any_of (λ i. same_name (get_or cs i []) v.constant) (length cs) (k % 8) (ltb-true (k % 8) (length cs) l)
      (ap (λ (w : Name). same_name (get_or cs (k % 8) []) w) e ∙ same_self (get_or cs (k % 8) []))))
      (λ l.
      let z : length cs ≡ 0 = eqb-true (length cs) 0 (both_left _ _ l) in
      let q : get_or cs (k % 8) [] ≡ [] = get_or-eq_default cs [] (let h : length cs ≤ k % 8 = omega arith in h) in
      either-right (any (λ i. same_name (get_or cs i []) v.constant) (length cs)) _
      (both_of (eqb (length cs) 0) (eqb (length v.constant) 0) (eq-eqb (length cs) 0 z) (eq-eqb (length v.constant) 0 (ap length (e ∙ q)))))
      (either-cases _ _ is.constant-known)

  pub belongs-known : IsValue d k → v.value_type ≡ (value_type_at d (k / 8)).name → v.constant ≡ get_or (value_type_at d (k / 8)).constants (k % 8) []
      → belongs v (value_type_at d t) ≡ eqb t (k / 8)
  unfolding belongs
  belongs-known is e c =
      let same : same_name (value_type_at d t).name v.value_type ≡ eqb t (k / 8) = ap (same_name (value_type_at d t).name) e ∙ differ_same (λ i. (value_type_at d i).name) (length d.value_types) wf.value-types-differ t (k / 8) known is.type-known in
      both-implied (same_name (value_type_at d t).name v.value_type) _
      (λ h.
      let q : t ≡ k / 8 = eqb-true t (k / 8) (sym same ∙ h) in
      subst
      (λ (u : ℕ).
      either (any (λ i. same_name (get_or (value_type_at d u).constants i []) v.constant) (length (value_type_at d u).constants))
      (both (eqb (length (value_type_at d u).constants) 0) (eqb (length v.constant) 0))
      ≡ true) (sym q) (constant-in is c))
      ∙ same

  pub belongs-none : k ≡ 96 → v.value_type ≡ (value_type_at d (k / 8)).name → belongs v (value_type_at d t) ≡ eqb t (k / 8)
  unfolding belongs both
  belongs-none z e =
      let few = wf.few-value-types in
      let beyond : length d.value_types ≤ k / 8 = omega arith in
      let none : (value_type_at d (k / 8)).name ≡ [] = ap (λ (x : ValueType). x.name) (get_or-eq_default d.value_types (record { name = []; constants = [] }) beyond) in
      let no : same_name (value_type_at d t).name v.value_type ≡ false = same_test (same_name (value_type_at d t).name v.value_type) false
      (λ h.
      let z : length (value_type_at d t).name ≡ 0 = key-length _ _ (same_key _ _ h) ∙ ap length (e ∙ none) in
      let long : 1 ≤ length (value_type_at d t).name = name-long _ (wf.value-type t known).named in
      absurd (omega arith))
      (λ h. absurd (false≢true h)) in
      rw no (sym (ne_eqb t (k / 8) (λ q. omega arith)))
