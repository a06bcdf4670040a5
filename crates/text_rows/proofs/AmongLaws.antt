-- What the arms of a `match` on a number tell: in an arm that it is one of the arm's numbers, in the last arm, `_`, that it is none
-- of all those before.
-- Assumes nothing.
use Prim.Native.Nat.{ℕ, suc, zero, ◌<◌}
use mathlib.Core.Bool.{Bool, ◌&&◌, false, true}
use mathlib.Core.List.{List, [], ◌∷◌}
use mathlib.Core.Logic.{◌⊎◌, inl, inr, ⊎_elim}
use mathlib.Core.Path.{◌≡◌, ◌∙◌, ap, refl, sym}
use lib.Dec.{eqb}
use borrow.Author.Tests.{ne_eqb}
use Rattle.laws.specs.Bounded.{all}
use Rattle.laws.specs.Connective.{either}
use Rattle.laws.proofs.BoundedLaws.{all-at}
use Rattle.laws.proofs.ConnectiveLaws.{and_left, and_right}

-- q is one of ks, as an arm says it
abbrev pub Among : ℕ → List ℕ → Type 0
Among q [] = ⊥
Among q (k ∷ []) = q ≡ k
Among q (k ∷ l ∷ ks) = (q ≡ k) ⊎ Among q (l ∷ ks)

-- q is in no list of kss, as the last arm says it: pairs nested to the left, with A innermost
abbrev pub Apart : Type 0 → ℕ → List (List ℕ) → Type 0
Apart A q [] = A
Apart A q (ks ∷ kss) = Apart (A × (Among q ks → ⊥)) q kss

-- n lists of one number each, from k on
abbrev pub alone : ℕ → ℕ → List (List ℕ)
alone k zero = []
alone k (suc n) = (k ∷ []) ∷ alone (suc k) n

-- the same as tests
unfoldable pub among : ℕ → List ℕ → Bool
among q [] = false
among q (k ∷ ks) = either (eqb q k) (among q ks)

unfoldable pub among_any : ℕ → List (List ℕ) → Bool
among_any q [] = false
among_any q (ks ∷ kss) = either (among q ks) (among_any q kss)

-- p holds of each of ks
unfoldable pub each : (ℕ → Bool) → List ℕ → Bool
each p [] = true
each p (k ∷ ks) = p k && each p ks

pub each_at : (p : ℕ → Bool) (q : ℕ) (ks : List ℕ) → each p ks ≡ true → Among q ks → p q ≡ true
unfolding each
each_at p q [] e m = absurd m
each_at p q (k ∷ []) e m = ap p m ∙ and_left (p k) true e
each_at p q (k ∷ l ∷ ks) e m =
    ⊎_elim (λ h. ap p h ∙ and_left (p k) (each p (l ∷ ks)) e) (λ h. each_at p q (l ∷ ks) (and_right (p k) (each p (l ∷ ks)) e) h) m

among_none : (q : ℕ) (ks : List ℕ) → (Among q ks → ⊥) → among q ks ≡ false
unfolding among either
among_none q [] n = refl
among_none q (k ∷ []) n = rw (ne_eqb q k n)
among_none q (k ∷ l ∷ ks) n = rw (ne_eqb q k (λ e. n (inl e))) (among_none q (l ∷ ks) (λ m. n (inr m)))

apart-behind : (A : Type 0) (q : ℕ) (kss : List (List ℕ)) → Apart A q kss → A × (among_any q kss ≡ false)
unfolding among_any either
apart-behind A q [] a = (a, refl)
apart-behind A q (ks ∷ kss) a =
    let b = apart-behind (A × (Among q ks → ⊥)) q kss a in (b.0.0, rw (among_none q ks b.0.1) b.1)

pub apart_none : (q : ℕ) (kss : List (List ℕ)) → Apart Unit q kss → among_any q kss ≡ false
apart_none q kss a = (apart-behind Unit q kss a).1

-- p holds of every number below n that is in no list of kss
pub excluded : (n : ℕ) (kss : List (List ℕ)) (p : ℕ → Bool) → all (λ q. either (among_any q kss) (p q)) n ≡ true
    → (q : ℕ) → q < n → Apart Unit q kss → p q ≡ true
unfolding either
excluded n kss p t q h a =
    sym (ap (λ (x : Bool). either x (p q)) (apart_none q kss a)) ∙ all-at (λ q. either (among_any q kss) (p q)) n t q h
