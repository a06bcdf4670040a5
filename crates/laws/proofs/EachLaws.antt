-- What holds of each element of a list, by the list's form: in two lists one behind the other, in the list of images, at an index.
-- Assumes nothing.
use Prim.Native.Nat.{◌<◌, suc, zero, ℕ}
use native.Mathlib.Nat.{le_of_suc-le-suc, not-suc-le-zero}
use mathlib.Core.Bool.{Bool, cond, false, true}
use mathlib.Core.List.{List, [], ◌++◌, ◌∷◌, map}
use mathlib.Core.Path.{◌≡◌}
use lib.ListN.{get_or, length}
use Rattle.laws.specs.Lists.{member}
use Rattle.laws.proofs.ConnectiveLaws.{or-no-left, or-no-right}

-- P holds of each element
abbrev pub Each : {A : Type 0} → (A → Type 0) → List A → Type 0
Each P [] = Unit
Each P (x ∷ xs) = P x × Each P xs

module _ {A : Type 0} (P : A → Type 0) where
  pub each-join : (xs ys : List A) → Each P xs → Each P ys → Each P (xs ++ ys)
  each-join [] ys f g = g
  each-join (x ∷ xs) ys f g = (f.0, each-join xs ys f.1 g)

  pub each-front : (xs ys : List A) → Each P (xs ++ ys) → Each P xs
  each-front [] ys f = tt
  each-front (x ∷ xs) ys f = (f.0, each-front xs ys f.1)

  pub each_back : (xs ys : List A) → Each P (xs ++ ys) → Each P ys
  each_back [] ys f = f
  each_back (x ∷ xs) ys f = each_back xs ys f.1

  -- of each element of one of two lists
  pub each-cond : (b : Bool) (xs ys : List A) → Each P xs → Each P ys → Each P (cond b xs ys)
  each-cond true xs ys f g = f
  each-cond false xs ys f g = g

  pub each_at : (d : A) (xs : List A) → Each P xs → (i : ℕ) → i < length xs → P (get_or xs i d)
  each_at d [] f i l = absurd (not-suc-le-zero l)
  each_at d (x ∷ xs) f zero l = f.0
  each_at d (x ∷ xs) f (suc i) l = each_at d xs f.1 i (le_of_suc-le-suc l)

  -- and of what stands for none
  pub each-or-none : (d : A) → P d → (xs : List A) → Each P xs → (i : ℕ) → P (get_or xs i d)
  each-or-none d p [] f i = p
  each-or-none d p (x ∷ xs) f zero = f.0
  each-or-none d p (x ∷ xs) f (suc i) = each-or-none d p xs f.1 i

  -- where none passes a test, and P holds of what fails it
  pub each-not : (t : A → Bool) → ((x : A) → t x ≡ false → P x) → (xs : List A) → member t xs ≡ false → Each P xs
  unfolding member
  each-not t f [] e = tt
  each-not t f (x ∷ xs) e = (f x (or-no-left (t x) (member t xs) e), each-not t f xs (or-no-right (t x) (member t xs) e))

  pub each_map : {B : Type 0} (g : B → A) (ys : List B) → Each (λ y. P (g y)) ys → Each P (map g ys)
  each_map g [] f = tt
  each_map g (y ∷ ys) f = (f.0, each_map g ys f.1)

module _ {A : Type 0} (P Q : A → Type 0) where
  pub each-then : ((x : A) → P x → Q x) → (xs : List A) → Each P xs → Each Q xs
  each-then g [] f = tt
  each-then g (x ∷ xs) f = (g x f.0, each-then g xs f.1)

  pub each_both : (xs : List A) → Each P xs → Each Q xs → Each (λ x. P x × Q x) xs
  each_both [] f g = tt
  each_both (x ∷ xs) f g = ((f.0, g.0), each_both xs f.1 g.1)
