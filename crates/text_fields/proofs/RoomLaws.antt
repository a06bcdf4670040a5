-- Rows one behind the other and lists picked by index: a part with the next row or element is within the whole.
-- Assumes nothing.
use Prim.Native.Nat.{ℕ, ◌+◌, ◌<◌, ◌≤◌, suc, zero}
use native.Mathlib.Nat.{le_of_eq, le_step, lt-suc_self}
use native.Mathlib.Numerals.{add-one}
use native.Mathlib.Omega.{arith}
use mathlib.Core.Bool.{Bool}
use mathlib.Core.List.{List, ◌++◌}
use mathlib.Core.Logic.{⊎_elim}
use mathlib.Core.Path.{◌≡◌, refl, sym, ap, ap₂, subst}
use lib.ListN.{length, length-append}
use Rattle.laws.specs.Lists.{joined, only, picked}
use Rattle.laws.proofs.BoundedLaws.{last}

-- n rows hold the first i of them and the next one
pub joined-room {ℓ} : {A : Type ℓ} (g : ℕ → List A) (n i : ℕ) → i < n → length (joined g i) + length (g i) ≤ length (joined g n)
unfolding joined
joined-room g zero i l = absurd (omega arith)
joined-room g (suc n) i l = ⊎_elim (λ e. here e) (λ h. above (joined-room g n i h)) (last l)
  where
    more : length (joined g n ++ g n) ≡ length (joined g n) + length (g n)
    more = length-append (joined g n) (g n)

    here : i ≡ n → length (joined g i) + length (g i) ≤ length (joined g n ++ g n)
    here e = subst (λ (k : ℕ). length (joined g k) + length (g k) ≤ length (joined g n ++ g n)) (sym e) (le_of_eq (sym more))

    above : length (joined g i) + length (g i) ≤ length (joined g n) → length (joined g i) + length (g i) ≤ length (joined g n ++ g n)
    above h = omega (arith, more)

-- ---- lists picked by index

module _ {ℓ} {A : Type ℓ} (on : ℕ → Bool) (f : ℕ → A) where
  -- one index more, as a loop counts
  pub picked_more : (n : ℕ) → picked on f (n + 1) ≡ picked on f n ++ only (on n) (f n)
  unfolding picked
  picked_more n = ap (picked on f) (add-one n)

  -- as rows of one element or none
  pub picked-rows : (n : ℕ) → picked on f n ≡ joined (λ i. only (on i) (f i)) n
  unfolding picked joined
  picked-rows zero = refl
  picked-rows (suc n) = ap (λ (xs : List A). xs ++ only (on n) (f n)) (picked-rows n)

  -- what is picked below n holds what is picked below i and the next one
  pub picked-room : (n i : ℕ) → i < n → length (picked on f i) + length (only (on i) (f i)) ≤ length (picked on f n)
  picked-room n i l =
      omega (arith, joined-room (λ i. only (on i) (f i)) n i l, ap length (picked-rows n), ap length (picked-rows i))

-- tests that agree pick the same
pub picked_same {ℓ} : {A : Type ℓ} (on by : ℕ → Bool) (f : ℕ → A) (n : ℕ) → ((i : ℕ) → i < n → on i ≡ by i) → picked on f n ≡ picked by f n
unfolding picked
picked_same on by f zero h = refl
picked_same {A = A} on by f (suc n) h =
    ap₂ (λ (xs : List A) (b : Bool). xs ++ only b (f n)) (picked_same on by f n (λ i l. h i (le_step l))) (h n (lt-suc_self n))
