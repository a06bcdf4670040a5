-- What is lacking among the first objects: where the numbers of all objects balance, what those of the first k objects lack comes from
-- further objects, and each has at most the largest gain of a type.
-- Assumes nothing.
use Rattle.std.specs.Prelude.{None, Some}
use Prim.Native.Nat.{◌*◌, ◌+◌, ◌-◌, ◌<◌, ◌≤◌, max, ℕ}
use native.Mathlib.Decide.{dec_lt}
use native.Mathlib.Nat.{mul-add}
use native.Mathlib.Omega.{arith}
use mathlib.Core.Bool.{Bool, ◌||◌, false, true}
use mathlib.Core.List.{List}
use mathlib.Core.Path.{◌∙◌, ◌≡◌, ap, ap₂, refl, subst, sym}
use lib.Dec.{eqb}
use lib.ListN.{get_or}
use borrow.Author.Count.{below_more}
use borrow.Author.Tests.{eq-eqb}
use Rattle.laws.specs.Bits.{bit}
use Rattle.laws.specs.Bounded.{one}
use Rattle.laws.proofs.ConnectiveLaws.{or_left, or_right, true-false}
use Rattle.growing.specs.World.{World}
use Rattle.growing.specs.Demand.{extras}
use Rattle.weights.specs.declared.Gain.{Gain}
use Rattle.weights.specs.declared.Scale.{Scale}
use Rattle.weights.specs.declared.Weight.{Weight}
use Rattle.weights.specs.Numbers.{limit_at, number_at, number_by}
use Rattle.weights.specs.Sums.{sum}
use Rattle.weights.specs.Weigh.{Begins, Gained, Gains, Lacks}
use Rattle.weights.proofs.NumberLaws.{limit-else}
use Rattle.weights.proofs.SumLaws.{extra-balance, sum-ext, sum_more}
use Rattle.worlds.specs.declared.Whole.{Whole}

-- ---- a sum, as a loop counts

pub sum-begin : (f : ℕ → ℕ) → 0 ≡ sum f 0
unfolding sum
sum-begin f = refl

pub sum-next : (f : ℕ → ℕ) (o : ℕ) {n m r : ℕ} → n ≡ sum f o → m ≡ f o → r ≡ m → n + r ≡ sum f (o + 1)
sum-next f o e g h = let a = sum_more f o in omega arith

module _ (targets lows highs : List ℕ) (wholes : List Whole) (w : Weight) (types : List ℕ) where
  pub total-next : (o : ℕ) {n l i m r : ℕ} → n ≡ sum (λ p. number_at targets lows highs wholes w p (get_or types p 0)) o → l ≡ limit_at w o → i ≡ o
      → m ≡ number_by targets lows highs wholes w l (get_or types i 0) → r ≡ m
      → n + r ≡ sum (λ p. number_at targets lows highs wholes w p (get_or types p 0)) (o + 1)
  total-next o e f g h k =
      sum-next (λ p. number_at targets lows highs wholes w p (get_or types p 0)) o e (h ∙ ap₂ (λ (x y : ℕ). number_by targets lows highs wholes w x (get_or types y 0)) f g) k

-- ---- gains

one-most : (p q : ℕ) (a b : Bool) → p ≤ q → (a ≡ true → b ≡ true) → p * one a ≤ q * one b
one-most p q false b l f = omega arith
one-most p q true b l f = subst (λ (x : Bool). p * 1 ≤ q * one x) (sym (f refl)) (omega arith)

module _ (a b : ℕ → ℕ) (free : ℕ) where
  pub gains-begin : (r : Gain) → Gains a b free 0 r
  gains-begin r = record { at = λ t l. absurd (omega arith) }

  pub gains-skip : (t : ℕ) {i : ℕ} {r s : Gain} → i ≡ t → Gains a b free t r → bit i free ≡ false → s ≡ r → Gains a b free (t + 1) s
  gains-skip t {i} {r} q h d i' = let e : bit t free ≡ false = ap (λ (k : ℕ). bit k free) (sym q) ∙ d in subst (λ (s : Gain). Gains a b free (t + 1) s) (sym i')
      (record { at = below_more (λ (u : ℕ). bit u free ≡ true → b u ≤ a u + r.most * one (bit u r.g)) t h.at (λ f. absurd (true-false f e)) })

  pub gains-add : (t : ℕ) {p q s : Gain} {x y : ℕ} → Gains a b free t p → x ≡ a t → y ≡ b t → Gained p q t x y → s ≡ q → Gains a b free (t + 1) s
  gains-add t {p} {q} {s} {x} {y} h e f g i = subst (λ (r : Gain). Gains a b free (t + 1) r) (sym i) (record {
    at = below_more (λ (u : ℕ). bit u free ≡ true → b u ≤ a u + q.most * one (bit u q.g)) t
        (λ u l k. let m = h.at u l k in
        let n = one-most p.most q.most (bit u p.g) (bit u q.g) g.most (g.kept u) in omega arith)
        (λ k. let n = g.new in omega arith);
  })

-- ---- how many times

pub times_more : (most c y z d : ℕ) → z ≡ y + most * c → d ≡ most → z + d ≡ y + most * (c + 1)
times_more most c y z d e f = let m = mul-add most c 1 in omega arith

pub times-one : {x y : ℕ} (most : ℕ) → y < x → (e : ℕ) → e < 1 → y + most * e < x
times-one most l e h = let q : e ≡ 0 = omega arith in let m = ap (λ (d : ℕ). most * d) q in omega arith

-- ---- what is lacking

pub lacks-none : (a b : ℕ → ℕ → ℕ) (types : List ℕ) (k free : ℕ) → Lacks a b types k free None
lacks-none a b types k free = record { some = tt; at = λ w s l. tt }

module _ (a b : ℕ → ℕ → ℕ) (a' b' : ℕ → ℕ) (later : (o t : ℕ) → 0 < o → a o t ≡ a' t) (later' : (o t : ℕ) → 0 < o → b o t ≡ b' t) where
  pub lacks-of : (types : List ℕ) (k free : ℕ) (gain : Gain) (m n c : ℕ) → 0 < k → m ≡ sum (λ o. a o (get_or types o 0)) k → n ≡ sum (λ o. b o (get_or types o 0)) k
      → Gains a' b' free 24 gain → 0 < c → ((e : ℕ) → e < c → n + gain.most * e < m) → Lacks a b types k free (Some (record { g = gain.g; c = c }))
  lacks-of types k free gain m n c first e f gains some times = record { some = some; at = λ w s l. go w s l (dec_lt (extras gain.g k w) c) }
    where
      go : (w : World) → Begins types k free w → sum (λ o. a o (w.kind o)) w.size ≤ sum (λ o. b o (w.kind o)) w.size
          → Dec (extras gain.g k w < c) → c ≤ extras gain.g k w
      go w s l (no h) = omega arith
      go w s l (yes h) =
          let x = sum-ext (λ o. a o (w.kind o)) (λ o. a o (get_or types o 0)) k (λ o i. ap (a o) (s.kept o i)) in
          let y = sum-ext (λ o. b o (w.kind o)) (λ o. b o (get_or types o 0)) k (λ o i. ap (b o) (s.kept o i)) in
          let d = extra-balance (λ o. a o (w.kind o)) (λ o. b o (w.kind o)) k w.size gain.most (λ o. bit (w.kind o) gain.g) s.many l
          (λ o i j. let p = later o (w.kind o) (omega arith) in
          let q = later' o (w.kind o) (omega arith) in
          let r = gains.at (w.kind o) (s.known o j) (s.extra o i j) in omega arith) in
          let z = times (extras gain.g k w) h in absurd (omega arith)

-- of the numbers by types
pub lacks-by : (targets lows highs : List ℕ) (wholes : List Whole) (x : Scale) (types : List ℕ) (k free : ℕ) (gain : Gain) (m n c : ℕ) → 0 < k
    → m ≡ sum (λ o. number_at targets lows highs wholes x.a o (get_or types o 0)) k → n ≡ sum (λ o. number_at targets lows highs wholes x.b o (get_or types o 0)) k
    → Gains (number_by targets lows highs wholes x.a x.a.limit) (number_by targets lows highs wholes x.b x.b.limit) free 24 gain
    → 0 < c → ((e : ℕ) → e < c → n + gain.most * e < m)
    → Lacks (number_at targets lows highs wholes x.a) (number_at targets lows highs wholes x.b) types k free (Some (record { g = gain.g; c = c }))
lacks-by targets lows highs wholes x = lacks-of (number_at targets lows highs wholes x.a) (number_at targets lows highs wholes x.b)
    (number_by targets lows highs wholes x.a x.a.limit) (number_by targets lows highs wholes x.b x.b.limit)
    (λ o t l. ap (λ (y : ℕ). number_by targets lows highs wholes x.a y t) (limit-else x.a o l))
    (λ o t l. ap (λ (y : ℕ). number_by targets lows highs wholes x.b y t) (limit-else x.b o l))
