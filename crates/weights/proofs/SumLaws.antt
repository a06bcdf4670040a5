-- Laws of sums. The one that matters is `turned`: the bits of a matrix counted row by row are those counted column by column. So, where
-- each row has at least so many bits and each column at most so many, the least sum is not above the largest (`balance`).
-- Assumes nothing.
use Prim.Native.Nat.{◌*◌, ◌+◌, ◌-◌, ◌<◌, ◌≤◌, suc, zero, ℕ}
use native.Mathlib.Nat.{le_refl, le_step, lt-suc_self, mul-add}
use native.Mathlib.Omega.{arith}
use mathlib.Core.Bool.{Bool}
use mathlib.Core.Path.{◌∙◌, ◌≡◌, ap, ap₂, refl, sym}
use Rattle.laws.specs.Bounded.{one, tally}
use Rattle.growing.specs.Demand.{from}
use Rattle.weights.specs.Sums.{sum}

pub sum-ext : (f g : ℕ → ℕ) (n : ℕ) → ((i : ℕ) → i < n → f i ≡ g i) → sum f n ≡ sum g n
unfolding sum
sum-ext f g zero h = refl
sum-ext f g (suc n) h = ap₂ (λ (a b : ℕ). a + b) (sum-ext f g n (λ i l. h i (le_step l))) (h n (lt-suc_self n))

pub sum_mono : (f g : ℕ → ℕ) (n : ℕ) → ((i : ℕ) → i < n → f i ≤ g i) → sum f n ≤ sum g n
unfolding sum
sum_mono f g zero h = le_refl 0
sum_mono f g (suc n) h = let a = sum_mono f g n (λ i l. h i (le_step l)) in let b = h n (lt-suc_self n) in omega arith

pub sum-add : (f g : ℕ → ℕ) (n : ℕ) → sum (λ i. f i + g i) n ≡ sum f n + sum g n
unfolding sum
sum-add f g zero = refl
sum-add f g (suc n) = let a = sum-add f g n in omega arith

-- below k, and the m places from there on
pub sum-split : (f : ℕ → ℕ) (k m : ℕ) → sum f (k + m) ≡ sum f k + sum (λ i. f (k + i)) m
unfolding sum
sum-split f k zero = let e : k + 0 ≡ k = omega arith in let a = ap (sum f) e in omega arith
sum-split f k (suc m) =
    let e : k + suc m ≡ suc (k + m) = omega arith in
    let a = ap (sum f) e in
    let b = sum-split f k m in omega arith

-- one more, as a loop counts
pub sum_more : (f : ℕ → ℕ) (n : ℕ) → sum f (n + 1) ≡ sum f n + f n
unfolding sum
sum_more f n = let e : n + 1 ≡ suc n = omega arith in ap (sum f) e

pub tally-sum : (q : ℕ → Bool) (n : ℕ) → tally q n ≡ sum (λ i. one (q i)) n
unfolding tally sum
tally-sum q zero = refl
tally-sum q (suc n) = ap (λ (a : ℕ). a + one (q n)) (tally-sum q n)

-- no more than c at each place of a test, and nothing elsewhere
pub sum-most : (f : ℕ → ℕ) (c : ℕ) (q : ℕ → Bool) (n : ℕ) → ((i : ℕ) → i < n → f i ≤ c * one (q i)) → sum f n ≤ c * tally q n
unfolding sum tally
sum-most f c q zero h = omega arith
sum-most f c q (suc n) h =
    let a = sum-most f c q n (λ i l. h i (le_step l)) in
    let b = h n (lt-suc_self n) in
    let e : c * (tally q n + one (q n)) ≡ c * tally q n + c * one (q n) = mul-add c (tally q n) (one (q n)) in
    omega arith

-- no rows, no bits
sum-none : (b : ℕ → ℕ → Bool) (n : ℕ) → sum (λ p. tally (λ o. b o p) zero) n ≡ 0
unfolding sum tally
sum-none b zero = refl
sum-none b (suc n) = let a = sum-none b n in omega arith

-- rows first is columns first
pub turned : (b : ℕ → ℕ → Bool) (m n : ℕ) → sum (λ o. tally (b o) n) m ≡ sum (λ p. tally (λ o. b o p) m) n
unfolding sum
turned b zero n = sym (sum-none b n)
turned b (suc m) n =
    ap₂ (λ (x y : ℕ). x + y) (turned b m n) (tally-sum (b m) n)
    ∙ sym (sum-add (λ p. tally (λ o. b o p) m) (λ p. one (b m p)) n)
    ∙ sum-ext (λ p. tally (λ o. b o p) m + one (b m p)) (λ p. tally (λ o. b o p) (suc m)) n (λ p l. unfold tally in refl)

pub balance : (b : ℕ → ℕ → Bool) (low high : ℕ → ℕ) (n : ℕ) → ((o : ℕ) → o < n → low o ≤ tally (b o) n) → ((p : ℕ) → p < n → tally (λ o. b o p) n ≤ high p)
    → sum low n ≤ sum high n
balance b low high n rows columns =
    let a = sum_mono low (λ o. tally (b o) n) n rows in
    let c = sum_mono (λ p. tally (λ o. b o p) n) high n columns in
    let e = turned b n n in omega arith

-- where the sums balance, and from place k on the high numbers exceed the low ones by at most c at the places of a test and nowhere
-- else, what the low numbers before k exceed the high ones by is at most c for each place of the test
pub extra-balance : (low high : ℕ → ℕ) (k n c : ℕ) (q : ℕ → Bool) → k ≤ n → sum low n ≤ sum high n
    → ((o : ℕ) → k ≤ o → o < n → high o ≤ low o + c * one (q o)) → sum low k ≤ sum high k + c * from q k n
extra-balance low high k n c q l h gain =
    let e : k + (n - k) ≡ n = omega arith in
    let a = sum-split low k (n - k) in
    let b = sum-split high k (n - k) in
    let a' = ap (sum low) e in
    let b' = ap (sum high) e in
    let more = sum_mono (λ i. high (k + i)) (λ i. low (k + i) + c * one (q (k + i))) (n - k) (λ i m. gain (k + i) (omega arith) (omega arith)) in
    let parts = sum-add (λ i. low (k + i)) (λ i. c * one (q (k + i))) (n - k) in
    let most = sum-most (λ i. c * one (q (k + i))) c (λ i. q (k + i)) (n - k) (λ i m. le_refl (c * one (q (k + i)))) in
    omega arith
