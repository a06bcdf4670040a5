-- What a record in memory keeps for an object and a name is the code of the record's one value for them, one more; it is 0
-- exactly where the record has none.
-- Assumes nothing.
use Prim.Native.Nat.{◌+◌, ◌<◌, ◌≤◌, suc, zero, ℕ}
use native.Mathlib.Nat.{not-suc-le-zero}
use native.Mathlib.Omega.{arith}
use mathlib.Core.Bool.{Bool, cond, false, not, true}
use mathlib.Core.Logic.{⊎_elim}
use mathlib.Core.Path.{◌∙◌, ◌≡◌, ap, refl, sym}
use lib.Dec.{eqb}
use lib.ListN.{length}
use borrow.Author.Tests.{eqb-true, ne_eqb}
use Rattle.laws.specs.Bounded.{any}
use Rattle.files.specs.Diagram.{Diagram}
use Rattle.files.specs.Membership.{has_value}
use Rattle.files.specs.Name.{Name}
use Rattle.files.specs.Record.{Record, value_at}
use Rattle.files.specs.WellFormedRecord.{WfRecord}
use Rattle.records.specs.Represents.{code_among, value_for}
use Rattle.records.specs.Slots.{code_of}
use Rattle.laws.proofs.BoundedLaws.{any_at, last}
use Rattle.laws.proofs.ConnectiveLaws.{both_left, both_right, known, or-no-left, or-no-right, true-false}
use Rattle.files.proofs.NameLaws.{same_key}
use Rattle.memory_rules.proofs.RiseLaws.{one_value}

module _ (d : Diagram) (r : Record) where
  code-none : (o : ℕ) (w : Name) (n : ℕ) → any (λ i. value_for (value_at r i) o w) n ≡ false → code_among d r o w n ≡ 0
  unfolding code_among any
  code-none o w zero e = refl
  code-none o w (suc n) e =
      rw (or-no-right (any (λ i. value_for (value_at r i) o w) n) (value_for (value_at r n) o w) e)
      (code-none o w n (or-no-left (any (λ i. value_for (value_at r i) o w) n) (value_for (value_at r n) o w) e))

  module _ (wf : WfRecord r) where
    same_place : (o : ℕ) (w : Name) (i j : ℕ) → i < length r.values → j < length r.values → value_for (value_at r i) o w ≡ true → value_for (value_at r j) o w ≡ true → i ≡ j
    same_place o w i j l k e f =
        one_value r wf i j l k (eqb-true _ _ (both_left _ _ e) ∙ sym (eqb-true _ _ (both_left _ _ f)))
        (same_key _ _ (both_right _ _ e) ∙ sym (same_key _ _ (both_right _ _ f)))

    code_at : (o : ℕ) (w : Name) (i n : ℕ) → i < n → n ≤ length r.values → value_for (value_at r i) o w ≡ true
        → code_among d r o w n ≡ 1 + code_of d (value_at r i).value_type (value_at r i).constant
    unfolding code_among
    code_at o w i zero l k e = absurd (not-suc-le-zero l)
    code_at o w i (suc n) l k e = go (value_for (value_at r n) o w) refl (code_at o w i n)
      where
        go : (b : Bool) → value_for (value_at r n) o w ≡ b
            → (i < n → n ≤ length r.values → value_for (value_at r i) o w ≡ true → code_among d r o w n ≡ 1 + code_of d (value_at r i).value_type (value_at r i).constant)
            → cond b (1 + code_of d (value_at r n).value_type (value_at r n).constant) (code_among d r o w n) ≡ 1 + code_of d (value_at r i).value_type (value_at r i).constant
        go true q f = ap (λ (j : ℕ). 1 + code_of d (value_at r j).value_type (value_at r j).constant) (same_place o w n i (omega arith) (omega arith) q e)
        go false q f = ⊎_elim (λ s. absurd (true-false e (ap (λ (j : ℕ). value_for (value_at r j) o w) s ∙ q))) (λ b. f b (omega arith) e) (last l)

    -- the value at index i is o's for w
    pub code-of : (o : ℕ) (w : Name) (i : ℕ) → i < length r.values → value_for (value_at r i) o w ≡ true
        → code_among d r o w (length r.values) ≡ 1 + code_of d (value_at r i).value_type (value_at r i).constant
    code-of o w i l e = code_at o w i (length r.values) l (omega arith) e

    -- it has a value exactly where the code is not 0
    pub code-has : (o : ℕ) (w : Name) → not (eqb (code_among d r o w (length r.values)) 0) ≡ has_value r o w
    unfolding has_value
    code-has o w =
        ⊎_elim (λ e. some (any_at _ (length r.values) e) ∙ sym e) (λ e. ap (λ (n : ℕ). not (eqb n 0)) (code-none o w (length r.values) e) ∙ sym e)
        (known (any (λ i. value_for (value_at r i) o w) (length r.values)))
      where
        some : (i : ℕ) × (i < length r.values) × (value_for (value_at r i) o w ≡ true) → not (eqb (code_among d r o w (length r.values)) 0) ≡ true
        some i =
            let c : code_among d r o w (length r.values) ≡ 1 + code_of d (value_at r i.0).value_type (value_at r i.0).constant = code-of o w i.0 i.1 i.2 in
            ap not (ne_eqb (code_among d r o w (length r.values)) 0 (λ z. omega arith))
