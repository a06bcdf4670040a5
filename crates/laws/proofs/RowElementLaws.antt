-- What holds of each element of some rows holds of each of the rows one behind the other, and each element of a row is one of these.
-- Assumes nothing.
use Prim.Native.Nat.{◌+◌, ◌<◌, suc, zero, ℕ}
use native.Mathlib.Nat.{le_of_suc-le-suc, le_step, lt-suc_self, not-suc-le-zero}
use native.Mathlib.Omega.{arith}
use mathlib.Core.List.{List, [], ◌++◌, ◌∷◌}
use mathlib.Core.Logic.{⊎_elim}
use mathlib.Core.Path.{◌∙◌, ◌≡◌, ap, subst, sym}
use lib.ListN.{get_or-append, get_or, length, length-append}
use lib.Seq.{get_or-append-add}
use Rattle.laws.specs.Lists.{joined}
use Rattle.laws.proofs.BoundedLaws.{last}

pub append-all {ℓ} : {A : Type ℓ} (P : A → Type 0) (d : A) (xs ys : List A) → ((k : ℕ) → k < length xs → P (get_or xs k d))
    → ((k : ℕ) → k < length ys → P (get_or ys k d)) → (k : ℕ) → k < length (xs ++ ys) → P (get_or (xs ++ ys) k d)
append-all P d [] ys f g k l = g k l
append-all P d (x ∷ xs) ys f g zero l = f zero (omega arith)
append-all P d (x ∷ xs) ys f g (suc k) l =
    append-all P d xs ys (λ j m. f (suc j) (let n : j < length xs = m in omega arith)) g k (le_of_suc-le-suc l)

pub joined-all {ℓ} : {A : Type ℓ} (P : A → Type 0) (d : A) (g : ℕ → List A) (n : ℕ)
    → ((i : ℕ) → i < n → (k : ℕ) → k < length (g i) → P (get_or (g i) k d)) → (k : ℕ) → k < length (joined g n) → P (get_or (joined g n) k d)
unfolding joined
joined-all P d g zero f k l = absurd (not-suc-le-zero l)
joined-all P d g (suc n) f k l = append-all P d (joined g n) (g n) (joined-all P d g n (λ i m. f i (le_step m))) (f n (lt-suc_self n)) k l

-- where an element of a row stands
pub record Stands {ℓ} {A : Type ℓ} (xs : List A) (d x : A) : Type ℓ where
  pub place : ℕ
  pub below : place < length xs
  pub is : get_or xs place d ≡ x

pub joined-has {ℓ} : {A : Type ℓ} (d : A) (g : ℕ → List A) (n i k : ℕ) → i < n → k < length (g i) → Stands (joined g n) d (get_or (g i) k d)
unfolding joined
joined-has d g zero i k l m = absurd (not-suc-le-zero l)
joined-has d g (suc n) i k l m =
    ⊎_elim
    (λ e.
    let q : k < length (g n) = subst (λ (x : ℕ). k < length (g x)) e m in
    record {
      place = length (joined g n) + k;
      below = omega (arith, length-append (joined g n) (g n));
      is = get_or-append-add (joined g n) (g n) k d ∙ ap (λ (x : ℕ). get_or (g x) k d) (sym e);
    })
    (λ h.
    let r = joined-has d g n i k h m in
    let b = r.below in
    record {
      place = r.place;
      below = omega (arith, length-append (joined g n) (g n));
      is = get_or-append (joined g n) (g n) d r.place b ∙ r.is;
    }) (last l)
