-- Lists with the same elements are the same.
-- Assumes nothing.
use Prim.Native.Nat.{ℕ, suc, ◌<◌}
use native.Mathlib.Omega.{arith}
use mathlib.Core.List.{List, [], ◌∷◌}
use mathlib.Core.Path.{◌≡◌, refl, ap₂}
use lib.ListN.{get_or, length}

pub same-lists : {A : Type 0} (d : A) (xs ys : List A) → length xs ≡ length ys → ((i : ℕ) → i < length xs → get_or xs i d ≡ get_or ys i d) → xs ≡ ys
same-lists d [] [] e f = refl
same-lists d [] (y ∷ ys) e f = absurd (omega arith)
same-lists d (x ∷ xs) [] e f = absurd (omega arith)
same-lists d (x ∷ xs) (y ∷ ys) e f = ap₂ (λ a b. a ∷ b) (f 0 (omega arith)) (same-lists d xs ys (omega arith) (λ i l. f (suc i) (omega arith)))
