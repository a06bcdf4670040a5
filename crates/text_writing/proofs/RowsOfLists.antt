-- A row for each element of a list: of two lists one behind the other, of a list of rows, and of a list by index.
-- Assumes nothing.
use Prim.Native.Nat.{ℕ, suc, zero}
use mathlib.Core.List.{List, ◌++◌}
use mathlib.Core.Path.{◌≡◌, refl, ap, ap₂, ◌∙◌}
use lib.ListN.{get_or-append, get_or, length, length-append}
use lib.Seq.{get_or-append-add}
use Rattle.laws.specs.Lists.{joined, listed}
use Rattle.laws.proofs.JoinedLaws.{get_or-each, joined-ext, joined-plus, length-each}

module _ {ℓ ℓ'} {A : Type ℓ} {B : Type ℓ'} (h : A → List B) (d : A) where
  -- the rows of a list's elements
  abbrev pub rows_of : List A → List B
  rows_of xs = joined (λ i. h (get_or xs i d)) (length xs)

  pub rows_append : (xs ys : List A) → rows_of (xs ++ ys) ≡ rows_of xs ++ rows_of ys
  rows_append xs ys =
      ap (joined (λ i. h (get_or (xs ++ ys) i d))) (length-append xs ys) ∙ joined-plus (λ i. h (get_or (xs ++ ys) i d)) (length xs) (length ys)
      ∙ ap₂ (λ (x y : List B). x ++ y) (joined-ext _ _ (length xs) (λ i l. ap h (get_or-append xs ys d i l)))
      (joined-ext _ _ (length ys) (λ i l. ap h (get_or-append-add xs ys i d)))

  pub rows-joined : (r : ℕ → List A) (n : ℕ) → rows_of (joined r n) ≡ joined (λ k. rows_of (r k)) n
  unfolding joined
  rows-joined r zero = refl
  rows-joined r (suc n) = rows_append (joined r n) (r n) ∙ ap (λ (x : List B). x ++ rows_of (r n)) (rows-joined r n)

  pub rows-listed : (f : ℕ → A) (n : ℕ) → rows_of (listed f n) ≡ joined (λ i. h (f i)) n
  rows-listed f n =
      ap (joined (λ i. h (get_or (listed f n) i d))) (length-each f d n) ∙ joined-ext _ _ n (λ i l. ap h (get_or-each f d n i l))
