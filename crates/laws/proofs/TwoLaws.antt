-- Two indices at which a test holds, and a count of at least two.
-- Assumes nothing.
use Prim.Native.Nat.{◌+◌, ◌<◌, ◌≤◌, suc, zero, ℕ}
use mathlib.Core.Bool.{Bool, ◌&&◌, and-false, false, not, true}
use mathlib.Core.Path.{◌∙◌, ◌≡◌, ap, refl, sym}
use native.Mathlib.Omega.{arith}
use lib.Dec.{eqb}
use borrow.Author.Tests.{eq-eqb, eqb-false, eqb-true, ne_eqb, not-true}
use Rattle.laws.specs.Bounded.{one, tally}
use Rattle.laws.proofs.BoundedLaws.{tally-none}
use Rattle.laws.proofs.ConnectiveLaws.{and_both, and_left, and_right}
use Rattle.laws.proofs.CountLaws.{tally-cover, tally-holds, tally-less, tally-some}

-- a test without index o
abbrev but : (ℕ → Bool) → ℕ → ℕ → Bool
but q o k = q k && not (eqb k o)

pub two-counted : (q : ℕ → Bool) (n o p : ℕ) → o < n → p < n → (o ≡ p → ⊥) → q o ≡ true → q p ≡ true → 2 ≤ tally q n
two-counted q n o p lo lp ne e f =
    let a : 0 < tally (but q o) n =
    tally-holds (but q o) n p lp (and_both (q p) (not (eqb p o)) f (ap not (ne_eqb p o (λ z. ne (sym z))))) in
    let b : tally (but q o) n < tally q n =
    tally-less (but q o) q n o (λ k l z. and_left (q k) (not (eqb k o)) z) lo (ap (λ (t : Bool). q o && not t) (eq-eqb o o refl) ∙ and-false (q o)) e in
    omega arith

-- one index is counted once
once : (o n : ℕ) → tally (λ k. eqb k o) n ≤ 1
unfolding tally
once o zero = omega arith
once o (suc n) = go (once o n) (eqb n o) refl
  where
    go : tally (λ k. eqb k o) n ≤ 1 → (t : Bool) → eqb n o ≡ t → tally (λ k. eqb k o) n + one (eqb n o) ≤ 1
    go h true e =
        let i : n ≡ o = eqb-true n o e in
        let z : tally (λ k. eqb k o) n ≡ 0 = tally-none (λ k. eqb k o) n (λ k l. ne_eqb k o (λ y. omega arith)) in
        let u : one (eqb n o) ≡ 1 = ap one e in omega arith
    go h false e = let u : one (eqb n o) ≡ 0 = ap one e in omega arith

-- two different indices below n at which q holds
pub record Two (q : ℕ → Bool) (n : ℕ) : Type 0 where
  pub first : ℕ
  pub second : ℕ
  pub below : first < n
  pub below-too : second < n
  pub apart : first ≡ second → ⊥
  pub holds : q first ≡ true
  pub holds-too : q second ≡ true

pub counted-two : (q : ℕ → Bool) (n : ℕ) → 2 ≤ tally q n → Two q n
counted-two q n h =
    let a = tally-some q n (omega arith) in
    let o = a.0 in
    let c = tally-cover q (λ k. eqb k o) (but q o) n (λ k l e f. and_both (q k) (not (eqb k o)) e (ap not f)) in
    let b = tally-some (but q o) n (omega (arith, once o n)) in
    let p = b.0 in
    record {
      first = o;
      second = p;
      below = a.1;
      below-too = b.1;
      apart = λ z. eqb-false p o (not-true (eqb p o) (and_right (q p) (not (eqb p o)) b.2)) (sym z);
      holds = a.2;
      holds-too = and_left (q p) (not (eqb p o)) b.2;
    }
