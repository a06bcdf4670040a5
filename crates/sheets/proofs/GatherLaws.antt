-- A number that is gathered over the indices at which a test holds.
-- Assumes nothing.
use Prim.Native.Nat.{◌+◌, ◌<◌, ◌≤◌, suc, zero, ℕ}
use native.Mathlib.Nat.{le_antisymm, le_step, lt-suc_self}
use native.Mathlib.Numerals.{add-one}
use mathlib.Core.Bool.{Bool, cond}
use mathlib.Core.Path.{◌∙◌, ◌≡◌, ap, ap₂, refl, sym}
use Rattle.sheets.specs.RowsBy.{gathered}

module _ (p : ℕ → Bool) (f : ℕ → ℕ → ℕ) (m : ℕ) where
  pub gathered-begin : m ≡ gathered p f m 0
  unfolding gathered
  gathered-begin = refl

  pub gathered-more : (n : ℕ) → gathered p f m (n + 1) ≡ cond (p n) (f n (gathered p f m n)) (gathered p f m n)
  unfolding gathered
  gathered-more n = rw add-one

  pub gathered_next : (n : ℕ) {v w : ℕ} → v ≡ gathered p f m n → w ≡ cond (p n) (f n v) v → w ≡ gathered p f m (n + 1)
  gathered_next n e q = q ∙ ap (λ (v : ℕ). cond (p n) (f n v) v) e ∙ sym (gathered-more n)

  pub gathered-done : (n k : ℕ) {v : ℕ} → k ≤ n → n ≤ k → v ≡ gathered p f m k → v ≡ gathered p f m n
  gathered-done n k h l e = e ∙ ap (gathered p f m) (le_antisymm h l)

pub gathered-ext : (p q : ℕ → Bool) (f : ℕ → ℕ → ℕ) (m n : ℕ) → ((k : ℕ) → k < n → p k ≡ q k) → gathered p f m n ≡ gathered q f m n
unfolding gathered
gathered-ext p q f m zero e = refl
gathered-ext p q f m (suc n) e =
    ap₂ (λ (b : Bool) (v : ℕ). cond b (f n v) v) (e n (lt-suc_self n)) (gathered-ext p q f m n (λ k l. e k (le_step l)))
