-- The types that a target may have, by bits: the masks of the places with an end, and what each end leaves of them.
-- Assumes nothing.
use Prim.Native.Nat.{◌<◌, ◌≤◌, suc, zero, ℕ}
use native.Mathlib.Nat.{le_step, lt_of_lt_of_le, lt-suc_self}
use mathlib.Core.Bool.{Bool, ◌&&◌, ◌||◌, and_assoc, and-true, cond, false, or-false, true}
use mathlib.Core.List.{List}
use mathlib.Core.Path.{◌∙◌, ◌≡◌, ap, ap₂, refl, sym}
use lib.Bits.{bit_and, bit_or}
use lib.ListN.{get_or, get_or-replicate, replicate}
use Rattle.laws.specs.Bits.{bit}
use Rattle.laws.specs.Bounded.{all, any}
use Rattle.laws.specs.Connective.{imp}
use Rattle.laws.proofs.BitLaws.{bit-and, bit-or, bit-zero}
use Rattle.laws.proofs.BoundedLaws.{all-at}
use Rattle.laws.proofs.ConnectiveLaws.{or_right, and-is-both}
use Rattle.sheets.specs.RowsBy.{gathered, mask_at, target_at}

pub all_types : (u : ℕ) → u < 24 → bit u 16777215 ≡ true
unfolding bit all
all_types u l = all-at (λ k. bit k 16777215) 24 refl u l

pub mask_step : (u m more keep : ℕ) → bit u (bit_and (bit_or m more) keep) ≡ (bit u m || bit u more) && bit u keep
mask_step u m more keep = bit-and u (bit_or m more) keep ∙ ap (λ (b : Bool). b && bit u keep) (bit-or u m more)

module _ (p : ℕ → Bool) (u : ℕ) where
  -- all types from the first end on
  pub some-bit : (keeps : List ℕ) → u < 24 → (n : ℕ) → ((e : ℕ) → e < n → bit u (get_or keeps e 0) ≡ true) → bit u (mask_at 16777215 keeps 0 p n) ≡ any p n
  unfolding gathered any
  some-bit keeps l zero f = bit-zero u
  some-bit keeps l (suc n) f = go (p n) (some-bit keeps l n (λ e h. f e (le_step h)))
    where
      m : ℕ
      m = mask_at 16777215 keeps 0 p n

      go : (b : Bool) → bit u m ≡ any p n → bit u (cond b (bit_and (bit_or m 16777215) (get_or keeps n 0)) m) ≡ any p n || b
      go true q =
          mask_step u m 16777215 (get_or keeps n 0)
          ∙ ap₂ (λ (x y : Bool). (bit u m || x) && y) (all_types u l) (f n (lt-suc_self n)) ∙ ap (λ (x : Bool). x && true) (or_right (bit u m) true refl)
          ∙ sym (or_right (any p n) true refl)
      go false q = q ∙ sym (or-false (any p n))

  -- of m, what is in the set of each end
  pub each-bit : (keeps : List ℕ) (m n : ℕ) → bit u (mask_at 0 keeps m p n) ≡ bit u m && all (λ e. imp (p e) (bit u (get_or keeps e 0))) n
  unfolding gathered all imp
  each-bit keeps m zero = sym (and-true (bit u m))
  each-bit keeps m (suc n) = go (p n) (each-bit keeps m n)
    where
      v : ℕ
      v = mask_at 0 keeps m p n

      s : Bool
      s = all (λ e. imp (p e) (bit u (get_or keeps e 0))) n

      go : (b : Bool) → bit u v ≡ bit u m && s → bit u (cond b (bit_and (bit_or v 0) (get_or keeps n 0)) v) ≡ bit u m && (s && imp b (bit u (get_or keeps n 0)))
      go true q =
          mask_step u v 0 (get_or keeps n 0)
          ∙ ap (λ (x : Bool). x && bit u (get_or keeps n 0)) (ap (λ (x : Bool). bit u v || x) (bit-zero u) ∙ or-false (bit u v) ∙ q)
          ∙ and_assoc (bit u m) s (bit u (get_or keeps n 0))
      go false q = q ∙ ap (λ (x : Bool). bit u m && x) (sym (and-true s))

-- the two, one after the other, where the first keeps all types
pub target-bit : (p : ℕ → Bool) (sets : List ℕ) (n u v w : ℕ) → n ≤ 32 → u < 24 → v ≡ mask_at 16777215 (replicate 32 16777215) 0 p n → w ≡ mask_at 0 sets v p n
    → bit u w ≡ target_at sets p n u
unfolding target_at
target-bit p sets n u v w few l e q =
    ap (bit u) q ∙ each-bit p u sets v n
    ∙ ap (λ (b : Bool). b && all (λ e. imp (p e) (bit u (get_or sets e 0))) n)
    (ap (bit u) e ∙ some-bit p u (replicate 32 16777215) l n (λ e h. ap (bit u) (get_or-replicate 32 e 16777215 0 (lt_of_lt_of_le h few)) ∙ all_types u l)) ∙ and-is-both (any p n) (all (λ e. imp (p e) (bit u (get_or sets e 0))) n)
