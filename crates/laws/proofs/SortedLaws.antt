-- The numbers f 0, f 1, .. below n, sorted: those that are 0, those that are 1, .. below m. They rise strictly exactly when no number
-- stands twice, and are at most n.
-- Assumes nothing.
use Prim.Native.Nat.{◌+◌, ◌-◌, ◌<◌, ◌≤◌, suc, zero, ℕ}
use native.Mathlib.Decide.{dec_lt}
use native.Mathlib.Nat.{le_step, lt_trans}
use native.Mathlib.Omega.{arith}
use mathlib.Core.Bool.{Bool, ◌&&◌, and-false, and-true, false, not, true}
use mathlib.Core.List.{List, [], ◌++◌, ◌∷◌, append-nil}
use mathlib.Core.Logic.{⊎_elim}
use mathlib.Core.Path.{◌∙◌, ◌≡◌, ap, ap₂, refl, subst, sym}
use lib.Dec.{eqb, leb, ltb}
use lib.ListN.{get_or-append, get_or, length, length-append, replicate, replicate-append-replicate}
use lib.Seq.{get_or-append-add, get_or-append_seam}
use borrow.Author.Tests.{eq-eqb, eqb-true, le-leb, le-ltb, lt-leb, lt-ltb, ltb-true, ne_eqb, not-true}
use Rattle.laws.specs.Bounded.{all, any, one, tally}
use Rattle.laws.specs.Lists.{joined, only, picked}
use Rattle.laws.proofs.BoundedLaws.{all-at, all-not, all_of, any_at, any-no}
use Rattle.laws.proofs.ConnectiveLaws.{known, same_test, true-false}
use Rattle.laws.proofs.CountLaws.{tally-le}
use Rattle.laws.proofs.ListLaws.{length-snoc}
use Rattle.laws.proofs.PickedLaws.{length-picked, picked-each}
use Rattle.laws.proofs.RowElementLaws.{joined-all}
use Rattle.laws.proofs.TwoLaws.{counted-two, two-counted}

-- each number is below the next one
abbrev pub rises : List ℕ → Bool
rises xs = all (λ i. ltb (get_or xs i 0) (get_or xs (suc i) 0)) (length xs - 1)

-- ---- one number more behind some that rise

module _ (xs : List ℕ) (x : ℕ) where
  rises-one : ((i : ℕ) → i < length xs → get_or xs i 0 < x) → rises (xs ++ (x ∷ [])) ≡ rises xs
  rises-one f = same_test _ _ there back
    where
      front : (i : ℕ) → i < length xs → get_or (xs ++ (x ∷ [])) i 0 ≡ get_or xs i 0
      front i l = get_or-append xs (x ∷ []) 0 i l

      there : all (λ i. ltb (get_or (xs ++ (x ∷ [])) i 0) (get_or (xs ++ (x ∷ [])) (suc i) 0)) (length (xs ++ (x ∷ [])) - 1) ≡ true
          → all (λ i. ltb (get_or xs i 0) (get_or xs (suc i) 0)) (length xs - 1) ≡ true
      there e = all_of _ (length xs - 1) (λ i l.
          let s : length (xs ++ (x ∷ [])) ≡ suc (length xs) = length-snoc xs x in
          sym (ap₂ ltb (front i (omega arith)) (front (suc i) (omega arith))) ∙ all-at _ (length (xs ++ (x ∷ [])) - 1) e i (omega arith))

      next : (i : ℕ) → i < length xs → Dec (suc i < length xs) → all (λ i. ltb (get_or xs i 0) (get_or xs (suc i) 0)) (length xs - 1) ≡ true
          → ltb (get_or (xs ++ (x ∷ [])) i 0) (get_or (xs ++ (x ∷ [])) (suc i) 0) ≡ true
      next i l (yes m) e = ap₂ ltb (front i l) (front (suc i) m) ∙ all-at _ (length xs - 1) e i (omega arith)
      next i l (no m) e =
          let s : suc i ≡ length xs = omega arith in
          ap₂ ltb (front i l) (ap (λ (j : ℕ). get_or (xs ++ (x ∷ [])) j 0) s ∙ get_or-append_seam xs x [] 0) ∙ lt-ltb _ _ (f i l)

      back : all (λ i. ltb (get_or xs i 0) (get_or xs (suc i) 0)) (length xs - 1) ≡ true
          → all (λ i. ltb (get_or (xs ++ (x ∷ [])) i 0) (get_or (xs ++ (x ∷ [])) (suc i) 0)) (length (xs ++ (x ∷ [])) - 1) ≡ true
      back e = all_of _ (length (xs ++ (x ∷ [])) - 1) (λ i l.
          let s : length (xs ++ (x ∷ [])) ≡ suc (length xs) = length-snoc xs x in
          next i (omega arith) (dec_lt (suc i) (length xs)) e)

  rises-two : (ys : List ℕ) → rises (xs ++ (x ∷ x ∷ ys)) ≡ false
  rises-two ys =
      let s : length (xs ++ (x ∷ x ∷ ys)) ≡ length xs + suc (suc (length ys)) = length-append xs (x ∷ x ∷ ys) in
      let one_on : suc (length xs) ≡ length xs + 1 = omega arith in
      all-not _ (length (xs ++ (x ∷ x ∷ ys)) - 1) (length xs) (omega arith)
      (ap₂ ltb (get_or-append_seam xs x (x ∷ ys) 0) (ap (λ (j : ℕ). get_or (xs ++ (x ∷ x ∷ ys)) j 0) one_on ∙ get_or-append-add xs (x ∷ x ∷ ys) 1 0)
      ∙ le-ltb x x (omega arith))

-- ---- one number picked often

copies : (on : ℕ → Bool) (x n : ℕ) → picked on (λ i. x) n ≡ replicate (tally on n) x
unfolding picked tally
copies on x zero = refl
copies on x (suc n) = ap (λ (s : List ℕ). s ++ only (on n) x) (copies on x n) ∙ go (tally on n) (on n)
  where
    go : (t : ℕ) (b : Bool) → replicate t x ++ only b x ≡ replicate (t + one b) x
    go t true = replicate-append-replicate t 1 x
    go t false = append-nil (replicate t x) ∙ (let e : t ≡ t + 0 = omega arith in ap (λ (k : ℕ). replicate k x) e)

-- ---- two tests that exclude each other

one_apart : (a b c : Bool) → (a ≡ true → c ≡ true) → (b ≡ true → c ≡ true) → (a ≡ true → b ≡ false) → one a + one b ≤ one c
one_apart true true c f g h = absurd (true-false refl (h refl))
one_apart true false c f g h = rw (f refl) (omega arith)
one_apart false true c f g h = rw (g refl) (omega arith)
one_apart false false c f g h = omega arith

tally-apart : (p q r : ℕ → Bool) (n : ℕ) → ((k : ℕ) → p k ≡ true → r k ≡ true) → ((k : ℕ) → q k ≡ true → r k ≡ true)
    → ((k : ℕ) → p k ≡ true → q k ≡ false) → tally p n + tally q n ≤ tally r n
unfolding tally
tally-apart p q r zero f g h = omega arith
tally-apart p q r (suc n) f g h = omega (arith, tally-apart p q r n f g h, one_apart (p n) (q n) (r n) (f n) (g n) (h n))

module _ (f : ℕ → ℕ) (n : ℕ) where
  abbrev pub sorted : ℕ → List ℕ
  sorted m = joined (λ j. picked (λ i. eqb (f i) j) (λ i. j) n) m

  -- what holds of each of the numbers holds of each of the sorted
  pub sorted-each : (P : ℕ → Type 0) → ((i : ℕ) → i < n → P (f i)) → (m s : ℕ) → s < length (sorted m) → P (get_or (sorted m) s 0)
  sorted-each P h m =
      joined-all P 0 (λ j. picked (λ i. eqb (f i) j) (λ i. j) n) m
      (λ j l. picked-each P (λ i. eqb (f i) j) (λ i. j) 0 n (λ i k e. subst P (eqb-true (f i) j e) (h i k)))

  sorted-below : (m s : ℕ) → s < length (sorted m) → get_or (sorted m) s 0 < m
  sorted-below m =
      joined-all (λ x. x < m) 0 (λ j. picked (λ i. eqb (f i) j) (λ i. j) n) m
      (λ j l. picked-each (λ x. x < m) (λ i. eqb (f i) j) (λ i. j) 0 n (λ i k e. l))

  abbrev often : ℕ → ℕ
  often j = tally (λ i. eqb (f i) j) n

  sorted_rises : (m : ℕ) → rises (sorted m) ≡ all (λ j. leb (often j) 1) m
  unfolding joined all
  sorted_rises zero = refl
  sorted_rises (suc m) =
      ap (λ (s : List ℕ). rises (sorted m ++ s)) (copies (λ i. eqb (f i) m) m n)
      ∙ go (often m) ∙ ap (λ (b : Bool). b && leb (often m) 1) (sorted_rises m)
    where
      go : (c : ℕ) → rises (sorted m ++ replicate c m) ≡ rises (sorted m) && leb c 1
      go zero = ap rises (append-nil (sorted m)) ∙ sym (and-true (rises (sorted m)))
      go (suc zero) = rises-one (sorted m) m (sorted-below m) ∙ sym (and-true (rises (sorted m)))
      go (suc (suc c)) = rises-two (sorted m) m (replicate c m) ∙ sym (ap (λ (b : Bool). rises (sorted m) && b) (lt-leb (suc (suc c)) 1 (omega arith)) ∙ and-false (rises (sorted m)))

  sorted-long : (m : ℕ) → length (sorted m) ≤ tally (λ i. ltb (f i) m) n
  unfolding joined
  sorted-long zero = omega arith
  sorted-long (suc m) =
      let a = sorted-long m in
      let b = length-append (sorted m) (picked (λ i. eqb (f i) m) (λ i. m) n) in
      let c = length-picked (λ i. eqb (f i) m) (λ i. m) n in
      let d = tally-apart (λ i. ltb (f i) m) (λ i. eqb (f i) m) (λ i. ltb (f i) (suc m)) n
      (λ i e. lt-ltb _ _ (le_step (ltb-true (f i) m e)))
      (λ i e. let q : f i ≡ m = eqb-true (f i) m e in lt-ltb (f i) (suc m) (omega arith))
      (λ i e. let l : f i < m = ltb-true (f i) m e in ne_eqb (f i) m (λ q. let z : f i ≡ m = q in omega arith)) in
      omega arith

  pub sorted-most : (m : ℕ) → length (sorted m) ≤ n
  sorted-most m = let a = sorted-long m in let b = tally-le (λ i. ltb (f i) m) n in omega arith

  -- no number has an earlier equal one, so each stands once at most
  seldom : any (λ i. any (λ j. eqb (f j) (f i)) i) n ≡ false → (j : ℕ) → leb (often j) 1 ≡ true
  seldom e j = go (dec_lt 1 (often j))
    where
      apart : (i k : ℕ) → i < k → k < n → f i ≡ f k → ⊥
      apart i k l m q = true-false (eq-eqb (f i) (f k) q) (any-no _ k (any-no _ n e k m) i l)

      clash : (i k : ℕ) → i < n → k < n → (i ≡ k → ⊥) → f i ≡ f k → Dec (i < k) → Dec (k < i) → ⊥
      clash i k l m ne q (yes h) g = apart i k h m q
      clash i k l m ne q (no h) (yes g) = apart k i g l (sym q)
      clash i k l m ne q (no h) (no g) = ne (omega arith)

      go : Dec (1 < often j) → leb (often j) 1 ≡ true
      go (yes h) =
          let t = counted-two (λ i. eqb (f i) j) n h in
          absurd (clash t.first t.second t.below t.below-too t.apart
          (eqb-true (f t.first) j t.holds ∙ sym (eqb-true (f t.second) j t.holds-too)) (dec_lt t.first t.second) (dec_lt t.second t.first))
      go (no h) = le-leb (often j) 1 (omega arith)

  -- they rise exactly when none of the numbers, all below m, has an earlier equal one
  pub sorted-once : (m : ℕ) → ((i : ℕ) → i < n → f i < m) → not (rises (sorted m)) ≡ any (λ i. any (λ j. eqb (f j) (f i)) i) n
  sorted-once m below = ap not (sorted_rises m) ∙ same_test _ _ there back
    where
      there : not (all (λ j. leb (often j) 1) m) ≡ true → any (λ i. any (λ j. eqb (f j) (f i)) i) n ≡ true
      there e = ⊎_elim (λ q. q) (λ q. absurd (true-false (all_of (λ j. leb (often j) 1) m (λ j l. seldom q j)) (not-true _ e))) (known (any (λ i. any (λ j. eqb (f j) (f i)) i) n))

      back : any (λ i. any (λ j. eqb (f j) (f i)) i) n ≡ true → not (all (λ j. leb (often j) 1) m) ≡ true
      back e =
          let a = any_at _ n e in
          let i = a.0 in
          let b = any_at _ i a.2 in
          let j = b.0 in
          let l : j < i = b.1 in
          let two : 2 ≤ often (f i) =
          two-counted (λ k. eqb (f k) (f i)) n j i (lt_trans l a.1) a.1 (λ q. let z : j ≡ i = q in omega arith) b.2 (eq-eqb (f i) (f i) refl) in
          ap not (all-not (λ k. leb (often k) 1) m (f i) (below i a.1) (lt-leb (often (f i)) 1 two))
