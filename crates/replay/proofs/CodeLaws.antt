-- A call of a code that is known, and the codes of the calls that are lent a buffer.
-- Assumes nothing.
use Prim.Native.Nat.{ℕ}
use mathlib.Core.Bool.{◌||◌, false, true}
use mathlib.Core.List.{List}
use mathlib.Core.Logic.{inl, inr, ⊎_elim, ◌⊎◌, ◌≢◌}
use mathlib.Core.Path.{◌≡◌, subst, sym}
use lib.Dec.{eqb}
use borrow.Author.Tests.{eq-eqb, eqb-true}
use Rattle.laws.proofs.ConnectiveLaws.{or-no-left, or-no-right, or_cases, true-false}
use Rattle.bench.specs.Calls.{Does}
use Rattle.bench.specs.declared.parts.Bench.{Bench}
use Rattle.bench.specs.declared.Replied.{Replied}
use Rattle.coding.specs.CallBytes.{Operands, call_of}

-- A is the operand that the call does not have
pub at_code : {A : Type 0} {b : Bench} {d : Replied} {after : List ℕ} (y : A → Operands) (k code : ℕ) → code ≡ k
    → ((x : A) → Does b (call_of k (y x)) d after) → (x : A) → Does b (call_of code (y x)) d after
at_code {b = b} {d = d} {after = after} y k code e f x = subst (λ (i : ℕ). Does b (call_of i (y x)) d after) (sym e) (f x)

-- ---- 7 and 9

pub lent_code : (k : ℕ) → eqb k 7 || eqb k 9 ≡ true → (k ≡ 7) ⊎ (k ≡ 9)
lent_code k h = ⊎_elim (λ p. inl (eqb-true k 7 p)) (λ q. inr (eqb-true k 9 q)) (or_cases (eqb k 7) (eqb k 9) h)

pub not-lent : (k : ℕ) → eqb k 7 || eqb k 9 ≡ false → (k ≢ 7) × (k ≢ 9)
not-lent k h = ((λ e. true-false (eq-eqb k 7 e) (or-no-left (eqb k 7) (eqb k 9) h)), (λ e. true-false (eq-eqb k 9 e) (or-no-right (eqb k 7) (eqb k 9) h)))

pub nine : {k : ℕ} → (k ≢ 7) → (k ≡ 7) ⊎ (k ≡ 9) → k ≡ 9
nine n = ⊎_elim (λ e. absurd (n e)) (λ e. e)
