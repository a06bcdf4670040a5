-- A row of 8 times 32 places with one of them set.
-- Assumes nothing.
use Prim.Native.Nat.{◌*◌, ◌+◌, ◌<◌, ℕ}
use native.Mathlib.Omega.{arith}
use mathlib.Core.Bool.{Bool, cond, false, true}
use mathlib.Core.List.{List}
use mathlib.Core.Path.{◌∙◌, ◌≡◌, ap, refl}
use lib.Dec.{eqb}
use lib.ListN.{get_or, length, set}
use lib.Seq.{get_or-set_other, get_or-set_same}
use borrow.Author.Tests.{eqb-false, eqb-true}
use Rattle.laws.specs.Connective.{both}

-- place (o, s) of the row, where (f, a) was set
pub set-place : (l : List ℕ) (f a x o s : ℕ) → length l ≡ 256 → f < 8 → a < 32 → s < 32
    → get_or (set l (f * 32 + a) x) (o * 32 + s) 0 ≡ cond (both (eqb f o) (eqb a s)) x (get_or l (o * 32 + s) 0)
unfolding both
set-place l f a x o s long hf ha hs = go (eqb f o) (eqb a s) refl refl
  where
    go : (b c : Bool) → eqb f o ≡ b → eqb a s ≡ c → get_or (set l (f * 32 + a) x) (o * 32 + s) 0 ≡ cond (both b c) x (get_or l (o * 32 + s) 0)
    go true true p q =
        let e : f ≡ o = eqb-true _ _ p in
        let g : a ≡ s = eqb-true _ _ q in
        let i : o * 32 + s ≡ f * 32 + a = omega arith in
        ap (λ (j : ℕ). get_or (set l (f * 32 + a) x) j 0) i ∙ get_or-set_same l (f * 32 + a) x 0 (omega arith)
    go true false p q =
        let g : a ≡ s → ⊥ = eqb-false _ _ q in
        let e : f ≡ o = eqb-true _ _ p in
        get_or-set_other l (f * 32 + a) (o * 32 + s) x 0 (λ i. g (omega arith))
    go false c p q =
        let e : f ≡ o → ⊥ = eqb-false _ _ p in
        get_or-set_other l (f * 32 + a) (o * 32 + s) x 0 (λ i. e (omega arith))
