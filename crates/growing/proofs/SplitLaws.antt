-- Laws of a count from a place on.
-- Assumes nothing.
use mathlib.Core.Path.{◌≡◌, ap, ◌∙◌}
use mathlib.Core.Bool.{Bool, true}
use Prim.Native.Nat.{ℕ, ◌+◌, ◌-◌, ◌<◌, ◌≤◌}
use native.Mathlib.Omega.{arith}
use Rattle.laws.specs.Bounded.{tally}
use Rattle.laws.proofs.CountLaws.{tally-le, tally-mono, tally-some, tally-split}
use Rattle.growing.specs.Demand.{from}

module _ (q : ℕ → Bool) (k n : ℕ) where
  pub from-split : k ≤ n → tally q n ≡ tally q k + from q k n
  from-split h = let e : n ≡ k + (n - k) = omega arith in ap (tally q) e ∙ tally-split q k (n - k)

  -- at least c of the places from k to n satisfy q: c places are there, and where c is not 0, one does
  pub from-least : (c : ℕ) → c ≤ from q k n → (c ≤ n - k) × (0 < c → (o : ℕ) × (k ≤ o) × (o < n) × (q o ≡ true))
  from-least c h =
      let few = tally-le (λ i. q (k + i)) (n - k) in
      (omega arith, λ p. let v = tally-some (λ i. q (k + i)) (n - k) (omega arith) in (k + v.0, omega arith, omega (arith, v.1), v.2))

  pub from-mono : (p : ℕ → Bool) → ((o : ℕ) → k ≤ o → o < n → p o ≡ true → q o ≡ true) → from p k n ≤ from q k n
  from-mono p f = tally-mono (λ i. p (k + i)) (λ i. q (k + i)) (n - k) (λ i l. f (k + i) (omega arith) (omega arith))
