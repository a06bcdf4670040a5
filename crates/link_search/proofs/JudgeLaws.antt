-- One set of bits with limits. A set between has no fewer bits than must stand, and no more than must and may together.
-- Assumes nothing.
use Prim.Native.Nat.{ℕ, ◌+◌, ◌<◌, ◌^◌}
use native.Mathlib.Decide.{dec_lt}
use mathlib.Core.Bool.{true}
use mathlib.Core.Path.{◌∙◌, ◌≡◌, ap}
use lib.Dec.{eqb}
use Rattle.std.specs.Int.{trailing_zeros, w8}
use Rattle.std.proofs.lemmas.Nat.Bits.{bit_at-trailing_zeros}
use Rattle.laws.proofs.BitLaws.{bit-zero}
use Rattle.laws.proofs.BoundedLaws.{tally-none}
use native.Mathlib.Omega.{arith}
use Rattle.laws.specs.Bits.{bit}
use Rattle.laws.specs.Bounded.{tally}
use Rattle.laws.proofs.CountLaws.{tally-mono, tally-cover}
use Rattle.link_search.specs.Answers.{BitsJudged}
use Rattle.std.specs.Prelude.{Err}
use Rattle.link_search.specs.declared.NoNet.{NoNet}
use Rattle.link_search.specs.declared.asked.Limits.{Limits}

-- the place of the lowest bit, by the library's count of zeros
pub lowest-bit : (m : ℕ) → 0 < tally (λ k. bit k m) 8 → m < 2 ^ 8 → (trailing_zeros w8 m < 8) × (bit (trailing_zeros w8 m) m ≡ true)
unfolding bit
lowest-bit m some l = go (dec_lt 0 m)
  where
    go : Dec (0 < m) → (trailing_zeros w8 m < 8) × (bit (trailing_zeros w8 m) m ≡ true)
    go (yes h) = let z = bit_at-trailing_zeros w8 m h l in (z.0, ap (λ (d : ℕ). eqb d 1) z.1)
    go (no h) =
        let e : m ≡ 0 = omega arith in
        let n = tally-none (λ k. bit k m) 8 (λ k i. ap (bit k) e ∙ bit-zero k) in absurd (omega arith)

module _ (must may : ℕ) (l : Limits) (e : NoNet) where
  -- too many must stand
  pub judged-many : l.high < tally (λ k. bit k must) 8 → BitsJudged must may l (Err e)
  judged-many h = λ w least most t. omega (arith, tally-mono (λ k. bit k must) w 8 least, t.most)

  -- too few may
  pub judged-short : tally (λ k. bit k must) 8 + tally (λ k. bit k may) 8 < l.low → BitsJudged must may l (Err e)
  judged-short h = λ w least most t. omega (arith, tally-cover w (λ k. bit k must) (λ k. bit k may) 8 most, t.least)
