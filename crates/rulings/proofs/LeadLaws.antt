-- The ends that lead the links of a type in a slot: which they are, by side and association, and the largest lower and the least upper
-- of their limits.
-- Assumes nothing.
use Prim.Native.Nat.{◌<◌, ◌≤◌, max, min, suc, zero, ℕ}
use native.Mathlib.Nat.{le_step, lt-suc_self, not-suc-le-zero}
use native.Mathlib.Omega.{arith}
use mathlib.Core.Bool.{Bool, cond, false, true}
use mathlib.Core.Logic.{◌⊎◌, inl, inr}
use mathlib.Core.Path.{◌∙◌, ◌≡◌, ap, ap₂, refl}
use lib.Dec.{eqb}
use Rattle.laws.specs.Connective.{both}
use Rattle.laws.proofs.BoundedLaws.{last}
use Rattle.laws.proofs.ConnectiveLaws.{true-false}
use Rattle.files.specs.Diagram.{Diagram, End, association_at}
use Rattle.rules.specs.Arrow.{Side, carries, source}
use Rattle.memory_rules.proofs.SlotLaws.{end_of}
use Rattle.type_tables.specs.Rows.{end_at, least, most}
use Rattle.type_tables.proofs.EndLaws.{carried-to, end-opposite}
use Rattle.views.specs.Views.{counts_as, high_among_by, leads_by, low_among_by, slot_by}

module _ (old d : Diagram) where
  pub leads-by : (t slot : ℕ) (s : Side) (a : ℕ)
      → leads_by old d t slot (end_of d s a) ≡ both (carries s (association_at d a)) (both (eqb (slot_by old d (end_of d s a)) slot) (counts_as old d (source s (association_at d a)).type t))
  unfolding leads_by
  leads-by t slot s a =
      ap₂ (λ (c : Bool) (e : End). both c (both (eqb (slot_by old d (end_of d s a)) slot) (counts_as old d e.type t))) (carried-to d s a) (end-opposite d s a)

  module _ (t s : ℕ) where
    -- ---- a number that each leading end allows

    pub low-among : (n k : ℕ) → ((e : ℕ) → e < k → leads_by old d t s e ≡ true → least (end_at d e).limits.low ≤ n) → low_among_by old d t s k ≤ n
    unfolding low_among_by
    low-among n zero f = omega arith
    low-among n (suc k) f = go (leads_by old d t s k) refl (low-among n k (λ e l. f e (le_step l)))
      where
        go : (b : Bool) → leads_by old d t s k ≡ b → low_among_by old d t s k ≤ n → cond b (max (low_among_by old d t s k) (least (end_at d k).limits.low)) (low_among_by old d t s k) ≤ n
        go true q h = let g : least (end_at d k).limits.low ≤ n = f k (lt-suc_self k) q in omega arith
        go false q h = h

    pub high-among : (n k : ℕ) → n ≤ 8 → ((e : ℕ) → e < k → leads_by old d t s e ≡ true → n ≤ most (end_at d e).limits.up) → n ≤ high_among_by old d t s k
    unfolding high_among_by
    high-among n zero small f = small
    high-among n (suc k) small f = go (leads_by old d t s k) refl (high-among n k small (λ e l. f e (le_step l)))
      where
        go : (b : Bool) → leads_by old d t s k ≡ b → n ≤ high_among_by old d t s k → n ≤ cond b (min (high_among_by old d t s k) (most (end_at d k).limits.up)) (high_among_by old d t s k)
        go true q h = let g : n ≤ most (end_at d k).limits.up = f k (lt-suc_self k) q in omega arith
        go false q h = h

    -- ---- and each leading end allows what lies between

    pub low-covers : (k e : ℕ) → e < k → leads_by old d t s e ≡ true → least (end_at d e).limits.low ≤ low_among_by old d t s k
    unfolding low_among_by
    low-covers zero e l q = absurd (not-suc-le-zero l)
    low-covers (suc k) e l q = go (leads_by old d t s k) refl (last l) (λ b. low-covers k e b q)
      where
        go : (b : Bool) → leads_by old d t s k ≡ b → (e ≡ k) ⊎ (e < k) → (e < k → least (end_at d e).limits.low ≤ low_among_by old d t s k)
            → least (end_at d e).limits.low ≤ cond b (max (low_among_by old d t s k) (least (end_at d k).limits.low)) (low_among_by old d t s k)
        go true z (inl i) r = let y : least (end_at d e).limits.low ≡ least (end_at d k).limits.low = ap (λ (j : ℕ). least (end_at d j).limits.low) i in omega arith
        go true z (inr i) r = let y = r i in omega arith
        go false z (inl i) r = absurd (true-false q (ap (leads_by old d t s) i ∙ z))
        go false z (inr i) r = r i

    pub high-covers : (k e : ℕ) → e < k → leads_by old d t s e ≡ true → high_among_by old d t s k ≤ most (end_at d e).limits.up
    unfolding high_among_by
    high-covers zero e l q = absurd (not-suc-le-zero l)
    high-covers (suc k) e l q = go (leads_by old d t s k) refl (last l) (λ b. high-covers k e b q)
      where
        go : (b : Bool) → leads_by old d t s k ≡ b → (e ≡ k) ⊎ (e < k) → (e < k → high_among_by old d t s k ≤ most (end_at d e).limits.up)
            → cond b (min (high_among_by old d t s k) (most (end_at d k).limits.up)) (high_among_by old d t s k) ≤ most (end_at d e).limits.up
        go true z (inl i) r = let y : most (end_at d e).limits.up ≡ most (end_at d k).limits.up = ap (λ (j : ℕ). most (end_at d j).limits.up) i in omega arith
        go true z (inr i) r = let y = r i in omega arith
        go false z (inl i) r = absurd (true-false q (ap (leads_by old d t s) i ∙ z))
        go false z (inr i) r = r i
