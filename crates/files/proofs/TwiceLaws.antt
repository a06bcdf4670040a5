-- Names that stand twice, by index: a list of names does not differ exactly when one of them has an earlier equal one.
-- Assumes nothing.
use Prim.Native.Nat.{◌<◌, ℕ}
use native.Mathlib.Nat.{lt_trans}
use mathlib.Core.Bool.{Bool, false, not}
use mathlib.Core.List.{List, []}
use mathlib.Core.Path.{◌≡◌, ap₂, refl}
use lib.ListN.{get_or, length}
use Rattle.laws.specs.Bounded.{all, any}
use Rattle.files.specs.Name.{Name, differ, same_name}
use Rattle.laws.proofs.BoundedLaws.{any-ext, not-all}

-- name i is one of the earlier ones
abbrev pub earlier : (ℕ → Name) → ℕ → Bool
earlier name i = any (λ j. same_name (name j) (name i)) i

pub not-differ : (ws : List Name) → not (differ ws) ≡ any (earlier (λ i. get_or ws i [])) (length ws)
unfolding differ
not-differ ws = not-all (earlier (λ i. get_or ws i [])) (length ws)

pub earlier-ext : (v w : ℕ → Name) (n : ℕ) → ((i : ℕ) → i < n → v i ≡ w i) → any (earlier v) n ≡ any (earlier w) n
earlier-ext v w n f =
    any-ext (earlier v) (earlier w) n (λ i l. any-ext _ _ i (λ j m. ap₂ same_name (f j (lt_trans m l)) (f i l)))

pub nothing-twice : not (differ []) ≡ false
unfolding differ all
nothing-twice = refl
