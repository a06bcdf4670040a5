-- What the tables of a world balance, by types alone. `rows-balance`: the links that good objects have at least stand in columns, each
-- with at most so many. `columns-balance`: the sources that targets have at least stand in rows, each with at most so many.
-- `parts-balance`: parts of different wholes are different, so that there are as many objects that can be a part.
-- Assumes nothing.
use Prim.Native.Nat.{◌<◌, ◌≤◌, ℕ}
use native.Mathlib.Nat.{le_trans}
use mathlib.Core.Bool.{Bool, ◌&&◌, cond, false, true}
use mathlib.Core.Path.{◌≡◌, ap, refl, subst, sym}
use Rattle.laws.specs.Bounded.{tally}
use Rattle.laws.proofs.BoundedLaws.{tally-none}
use Rattle.laws.proofs.ConnectiveLaws.{and_left, and_right, same_test, true-false, where-least, where-most}
use Rattle.laws.proofs.CountLaws.{tally-ext, tally-mono}
use Rattle.growing.specs.World.{World}
use Rattle.weights.specs.Sums.{sum}
use Rattle.weights.proofs.SumLaws.{balance}

module _ (w : World) (s : ℕ) where
  -- the links in slot s of objects with a good type go to objects of `to`
  pub rows-balance : (good to : ℕ → Bool) (low high : ℕ → ℕ)
      → ((o : ℕ) → o < w.size → good (w.kind o) ≡ true → low o ≤ tally (λ p. w.link s o p) w.size)
      → ((o p : ℕ) → o < w.size → p < w.size → good (w.kind o) ≡ true → w.link s o p ≡ true → to (w.kind p) ≡ true)
      → ((p : ℕ) → p < w.size → to (w.kind p) ≡ true → tally (λ o. good (w.kind o) && w.link s o p) w.size ≤ high p)
      → sum (λ o. cond (good (w.kind o)) (low o) 0) w.size ≤ sum (λ p. cond (to (w.kind p)) (high p) 0) w.size
  rows-balance good to low high rows goes columns = balance bits (λ o. cond (good (w.kind o)) (low o) 0) (λ p. cond (to (w.kind p)) (high p) 0) w.size
      (λ o l. where-least (good (w.kind o)) (low o) (tally (bits o) w.size) (λ e.
      subst (λ (t : ℕ). low o ≤ t) (tally-ext (λ p. w.link s o p) (bits o) w.size (λ p k. sym (ap (λ (b : Bool). b && w.link s o p) e))) (rows o l e)))
      (λ p l. where-most (to (w.kind p)) (tally (λ o. bits o p) w.size) (high p) (columns p l) (λ e.
      tally-none (λ o. bits o p) w.size (λ o k. none o p k l e)))
    where
      bits : ℕ → ℕ → Bool
      bits o p = good (w.kind o) && w.link s o p

      none : (o p : ℕ) → o < w.size → p < w.size → to (w.kind p) ≡ false → bits o p ≡ false
      none o p k l e = same_test (bits o p) false
          (λ t. absurd (true-false (goes o p k l (and_left (good (w.kind o)) (w.link s o p) t) (and_right (good (w.kind o)) (w.link s o p) t)) e))
          (λ t. absurd (true-false t refl))

  -- the sources of `from` that objects of `to` have in slot s
  pub columns-balance : (from to : ℕ → Bool) (low high : ℕ → ℕ)
      → ((p : ℕ) → p < w.size → to (w.kind p) ≡ true → low p ≤ tally (λ o. from (w.kind o) && w.link s o p) w.size)
      → ((o : ℕ) → o < w.size → from (w.kind o) ≡ true → tally (λ p. w.link s o p) w.size ≤ high o)
      → sum (λ p. cond (to (w.kind p)) (low p) 0) w.size ≤ sum (λ o. cond (from (w.kind o)) (high o) 0) w.size
  columns-balance from to low high columns rows = balance (λ p o. bits o p) (λ p. cond (to (w.kind p)) (low p) 0) (λ o. cond (from (w.kind o)) (high o) 0) w.size
      (λ p l. where-least (to (w.kind p)) (low p) (tally (λ o. bits o p) w.size) (columns p l))
      (λ o l. where-most (from (w.kind o)) (tally (bits o) w.size) (high o)
      (λ e. le_trans (tally-mono (bits o) (λ p. w.link s o p) w.size (λ p k t. and_right (from (w.kind o)) (w.link s o p) t)) (rows o l e))
      (λ e. tally-none (bits o) w.size (λ p k. ap (λ (b : Bool). b && w.link s o p) e)))
    where
      bits : ℕ → ℕ → Bool
      bits o p = from (w.kind o) && w.link s o p

-- parts: q p o says that o is a whole of p
pub parts-balance : (n : ℕ) (q : ℕ → ℕ → Bool) (low : ℕ → ℕ) (part : ℕ → Bool) → ((o : ℕ) → o < n → low o ≤ tally (λ p. q p o) n) → ((p : ℕ) → p < n → tally (q p) n ≤ 1)
    → ((o p : ℕ) → o < n → p < n → q p o ≡ true → part p ≡ true) → sum low n ≤ sum (λ p. cond (part p) 1 0) n
parts-balance n q low part rows ones parts = balance (λ o p. q p o) low (λ p. cond (part p) 1 0) n rows
    (λ p l. where-most (part p) (tally (q p) n) 1 (λ e. ones p l) (λ e.
    tally-none (q p) n (λ o k. same_test (q p o) false (λ t. absurd (true-false (parts o p k l t) e)) (λ t. absurd (true-false t refl)))))
