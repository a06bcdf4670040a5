-- The values of a well-formed record rise strictly by object and attribute name, so that it has one value for an object and a
-- name.
-- Assumes nothing.
use Prim.Native.Nat.{◌<◌, suc, zero, ℕ}
use native.Mathlib.Nat.{not-suc-le-zero}
use native.Mathlib.Omega.{arith}
use native.Mathlib.Decide.{dec_lt}
use mathlib.Core.Bool.{true}
use mathlib.Core.Logic.{◌⊎◌, inl, inr, ⊎_elim}
use mathlib.Core.Path.{◌∙◌, ◌≡◌, subst, sym}
use lib.ListN.{length}
use borrow.Author.Tests.{eq-eqb, eqb-true, lt-ltb, ltb-true}
use Rattle.files.specs.Name.{before, key}
use Rattle.files.specs.Record.{Record, Value, value_at}
use Rattle.files.specs.RecordFile.{value_before}
use Rattle.files.specs.WellFormedRecord.{WfRecord}
use Rattle.laws.proofs.BoundedLaws.{last}
use Rattle.laws.proofs.ConnectiveLaws.{both_left, both_of, both_right, either-cases, either_left, either-right, true-false}
use Rattle.files.proofs.NameLaws.{before-left, before_self, before-trans}

-- by object, or by name at one object
pub value-cases : (u v : Value) → value_before u v ≡ true → (u.object < v.object) ⊎ ((u.object ≡ v.object) × (before u.attribute v.attribute ≡ true))
unfolding value_before
value-cases u v e =
    ⊎_elim (λ a. inl (ltb-true _ _ a)) (λ b. inr (eqb-true _ _ (both_left _ _ b), both_right _ _ b)) (either-cases _ _ e)

by-object : (u v : Value) → u.object < v.object → value_before u v ≡ true
unfolding value_before
by-object u v l = either_left _ _ (lt-ltb _ _ l)

by_name : (u v : Value) → u.object ≡ v.object → before u.attribute v.attribute ≡ true → value_before u v ≡ true
unfolding value_before
by_name u v o e = either-right _ _ (both_of _ _ (eq-eqb _ _ o) e)

value-trans : (u v w : Value) → value_before u v ≡ true → value_before v w ≡ true → value_before u w ≡ true
value-trans u v w e f = go (value-cases u v e) (value-cases v w f)
  where
    go : (u.object < v.object) ⊎ ((u.object ≡ v.object) × (before u.attribute v.attribute ≡ true))
        → (v.object < w.object) ⊎ ((v.object ≡ w.object) × (before v.attribute w.attribute ≡ true)) → value_before u w ≡ true
    go (inl a) (inl b) = by-object u w (omega arith)
    go (inl a) (inr b) = by-object u w (omega arith)
    go (inr a) (inl b) = by-object u w (omega arith)
    go (inr a) (inr b) = by_name u w (a.0 ∙ b.0) (before-trans u.attribute v.attribute w.attribute a.1 b.1)

-- no value is before one of the same object and name
value-self : (u v : Value) → u.object ≡ v.object → key u.attribute ≡ key v.attribute → value_before u v ≡ true → ⊥
value-self u v o w e =
    ⊎_elim (λ l. omega arith)
    (λ b. true-false b.1 (before-left v.attribute u.attribute v.attribute w ∙ before_self v.attribute)) (value-cases u v e)

module _ (r : Record) (wf : WfRecord r) where
  value-far : (j i : ℕ) → i < j → j < length r.values → value_before (value_at r i) (value_at r j) ≡ true
  value-far zero i l k = absurd (not-suc-le-zero l)
  value-far (suc j) i l k =
      ⊎_elim (λ q. subst (λ (n : ℕ). value_before (value_at r n) (value_at r (suc j)) ≡ true) (sym q) (wf.values-rise j k))
      (λ b. value-trans (value_at r i) (value_at r j) (value_at r (suc j)) (value-far j i b (omega arith)) (wf.values-rise j k)) (last l)

  -- one value for an object and a name
  pub one_value : (i j : ℕ) → i < length r.values → j < length r.values → (value_at r i).object ≡ (value_at r j).object → key (value_at r i).attribute ≡ key (value_at r j).attribute → i ≡ j
  one_value i j l k o w = go (dec_lt i j) (dec_lt j i)
    where
      go : Dec (i < j) → Dec (j < i) → i ≡ j
      go (yes a) b = absurd (value-self (value_at r i) (value_at r j) o w (value-far j i a k))
      go (no a) (yes b) = absurd (value-self (value_at r j) (value_at r i) (sym o) (sym w) (value-far i j b l))
      go (no a) (no b) = omega arith
