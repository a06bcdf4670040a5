-- The library's `all`, `any`, `find` and `filter` with `count` over a range, said of the indices below its end.
-- Assumes nothing.
use Prim.Native.Nat.{ℕ, zero, suc, ◌+◌, ◌-◌, ◌<◌}
use native.Mathlib.Omega.{arith}
use mathlib.Core.Bool.{Bool, cond, true, false, false≢true}
use mathlib.Core.List.{List}
use mathlib.Core.Logic.{⊎_elim}
use mathlib.Core.Path.{◌≡◌, refl, subst, sym, ap, ◌∙◌}
use lib.ListN.{length}
use denote.Param.Members.{Mut}
use Rattle.std.specs.declared.option.Option.{Option}
use Rattle.std.specs.Prelude.{None, Some, ⊤}
use Rattle.std.specs.declared.ops.Range.{Range}
use Rattle.std.specs.declared.iter.Filter.{Filter}
use Rattle.std.specs.Iterator.{YieldsThen, Drains, FoldTurn}
use Rattle.std.specs.Iterator.Adapters.{filter_source, filter_callee, filter_steps}
use Rattle.std.specs.List.{FoldsTo, count_by, find, range_with_len, list_all, list_any}
use Rattle.std.specs.Borrow.{Bor}
use Rattle.std.specs.Fn.{Called, CalledAt}
use Rattle.std.specs.Option.{MatchOption, option_map, unwrap_or}
use Rattle.std.proofs.iter.Yields.{nat_range_steps}
use Rattle.std.proofs.lemmas.Iterator.{YieldsList-from_range}
use Rattle.std.proofs.lemmas.Iterator.Consumers.{YieldsList-from_filter, count_from_yields_List}
use Rattle.std.proofs.lemmas.List.Sums.{sum_by-cons, length-filter}
use Rattle.std.proofs.lemmas.Iterator.Search.{all_from_yields_List, any_from_yields_List, find_from_yields_List}
use Rattle.laws.specs.Bounded.{one, all, any, first, tally}
use Rattle.laws.proofs.BoundedLaws.{all-at, all_of, any_at, any_of, any_none}
use Rattle.std.proofs.lemmas.List.FromFn.{length-range_with_len, get_or-range_with_len}
use Rattle.laws.proofs.FoldLaws.{fold-holds}
use Rattle.laws.proofs.CountLaws.{tally-ext, tally-split}
use Rattle.laws.proofs.FirstLaws.{first-hit, first-none}
use Rattle.laws.proofs.ConnectiveLaws.{same_test, and_left, and_right, and_both, or_left, or_right, or_cases}

module _ (p : ℕ → Bool) where
  all-each : (n a k : ℕ) → list_all p (range_with_len a n) ≡ true → k < n → p (a + k) ≡ true
  all-each zero a k e l = absurd (omega arith)
  all-each (suc n) a zero e l = let q : a + 0 ≡ a = omega arith in rw q (and_left _ _ e)
  all-each (suc n) a (suc k) e l =
      let q : a + suc k ≡ a + 1 + k = omega arith in
      rw q (all-each n (a + 1) k (and_right _ _ e) (omega arith))

  each-all : (n a : ℕ) → ((k : ℕ) → k < n → p (a + k) ≡ true) → list_all p (range_with_len a n) ≡ true
  each-all zero a f = refl
  each-all (suc n) a f =
      and_both _ _ (let q : a + 0 ≡ a = omega arith in subst (λ (x : ℕ). p x ≡ true) q (f 0 (omega arith)))
      (each-all n (a + 1) (λ k l. let q : a + suc k ≡ a + 1 + k = omega arith in subst (λ (x : ℕ). p x ≡ true) q (f (suc k) (omega arith))))

  list_all-range : (n : ℕ) → list_all p (range_with_len 0 n) ≡ all p n
  list_all-range n =
      same_test _ _
      (λ e. all_of p n (λ k l. let q : 0 + k ≡ k = omega arith in subst (λ (x : ℕ). p x ≡ true) q (all-each n 0 k e l)))
      (λ e. each-all n 0 (λ k l. let q : k ≡ 0 + k = omega arith in subst (λ (x : ℕ). p x ≡ true) q (all-at p n e k l)))

  any-each : (n a k : ℕ) → k < n → p (a + k) ≡ true → list_any p (range_with_len a n) ≡ true
  any-each zero a k l e = absurd (omega arith)
  any-each (suc n) a zero l e = or_left _ _ (let q : a + 0 ≡ a = omega arith in subst (λ (x : ℕ). p x ≡ true) q e)
  any-each (suc n) a (suc k) l e =
      or_right (p a) _ (any-each n (a + 1) k (omega arith) (let q : a + suc k ≡ a + 1 + k = omega arith in subst (λ (x : ℕ). p x ≡ true) q e))

  each-any : (n a : ℕ) → list_any p (range_with_len a n) ≡ true → (k : ℕ) × (k < n) × (p (a + k) ≡ true)
  each-any zero a e = absurd (false≢true e)
  each-any (suc n) a e =
      ⊎_elim (λ h. (0, omega arith, let q : a ≡ a + 0 = omega arith in subst (λ (x : ℕ). p x ≡ true) q h))
      (λ h.
      let w = each-any n (a + 1) h in
      let q : a + 1 + w.0 ≡ a + suc w.0 = omega arith in
      (suc w.0, (let l : w.0 < n = w.1 in omega arith), subst (λ (x : ℕ). p x ≡ true) q w.2)) (or_cases _ _ e)

  list_any-range : (n : ℕ) → list_any p (range_with_len 0 n) ≡ any p n
  list_any-range n =
      same_test _ _
      (λ e.
      let w = each-any n 0 e in
      let q : 0 + w.0 ≡ w.0 = omega arith in
      any_of p n w.0 w.1 (subst (λ (x : ℕ). p x ≡ true) q w.2))
      (λ e.
      let w = any_at p n e in
      let q : w.0 ≡ 0 + w.0 = omega arith in
      any-each n 0 w.0 w.1 (subst (λ (x : ℕ). p x ≡ true) q w.2))

  -- the first that passes, if one of n from a on does
  abbrev Finds : ℕ → ℕ → Option ℕ → Type 0
  Finds n a None = (k : ℕ) → k < n → p (a + k) ≡ false
  Finds n a (Some x) = (k : ℕ) × (x ≡ a + k) × (k < n) × (p (a + k) ≡ true) × ((j : ℕ) → j < k → p (a + j) ≡ false)

  finds : (n a : ℕ) → Finds n a (find p (range_with_len a n))
  finds zero a = λ k l. absurd (omega arith)
  finds (suc n) a = go (finds n (a + 1)) (p a) refl
    where
      here : (b : Bool) → p a ≡ b → p (a + 0) ≡ b
      here b e = let q : a ≡ a + 0 = omega arith in subst (λ (x : ℕ). p x ≡ b) q e

      later : (b : Bool) (k : ℕ) → p (a + 1 + k) ≡ b → p (a + suc k) ≡ b
      later b k e = let q : a + 1 + k ≡ a + suc k = omega arith in subst (λ (x : ℕ). p x ≡ b) q e

      before : p a ≡ false → (m : ℕ) → ((j : ℕ) → j < m → p (a + 1 + j) ≡ false) → (j : ℕ) → j < suc m → p (a + j) ≡ false
      before e m f zero l = here false e
      before e m f (suc j) l = later false j (f j (omega arith))

      behind : p a ≡ false → (r : Option ℕ) → Finds n (a + 1) r → Finds (suc n) a r
      behind e None f = before e n f
      behind e (Some x) w = (suc w.0, omega (arith, w.1), (let l : w.0 < n = w.2 in omega arith), later true w.0 w.3, before e w.0 w.4)

      go : Finds n (a + 1) (find p (range_with_len (a + 1) n)) → (b : Bool) → p a ≡ b → Finds (suc n) a (cond b (Some a) (find p (range_with_len (a + 1) n)))
      go f true e = (0, omega arith, omega arith, here true e, λ j l. absurd (omega arith))
      go f false e = behind e (find p (range_with_len (a + 1) n)) f

  first-of : (n : ℕ) (r : Option ℕ) → Finds n 0 r → unwrap_or r n ≡ first p n
  first-of n None f = sym (first-none p n (any_none p n (λ k l. let q : 0 + k ≡ k = omega arith in subst (λ (x : ℕ). p x ≡ false) q (f k l))))
  first-of n (Some x) w =
      let q : 0 + w.0 ≡ w.0 = omega arith in
      w.1 ∙ q
      ∙ sym
      (first-hit p n w.0 w.2 (any_none p w.0 (λ j l. let z : 0 + j ≡ j = omega arith in subst (λ (x : ℕ). p x ≡ false) z (w.4 j l)))
      (subst (λ (x : ℕ). p x ≡ true) q w.3))

module _ {F : Type 0} {g : Mut F (ℕ × Unit {0}) Bool} {s u : Range ℕ} {f : F} {r : Bool} (p : ℕ → Bool) (n : ℕ) where
  pub all-range :
      (xs : List ℕ) × (o : Option ℕ) × (j : F) × YieldsThen nat_range_steps s xs o u × FoldsTo (λ p x q. Called g p (x, tt) true q) f xs j
      × MatchOption o (r ≡ true) (λ x. (r ≡ false) × ((h : F) × Called g j (x, tt) false h))
      → s ≡ record { start = 0; end = n }
      → ((x : ℕ) (b : Bool) (q : F) → Called g f (x, tt) b q → (q ≡ f) × (b ≡ p x))
      → r ≡ all p n
  all-range ran e k = all_from_yields_List p u f r ran (YieldsList-from_range 0 n n e (let z : n - 0 ≡ n = omega arith in z)) k ∙ list_all-range p n

  pub any-range :
      (xs : List ℕ) × (o : Option ℕ) × (j : F) × YieldsThen nat_range_steps s xs o u × FoldsTo (λ p x q. Called g p (x, tt) false q) f xs j
      × MatchOption o (r ≡ false) (λ x. (r ≡ true) × ((h : F) × Called g j (x, tt) true h))
      → s ≡ record { start = 0; end = n }
      → ((x : ℕ) (b : Bool) (q : F) → Called g f (x, tt) b q → (q ≡ f) × (b ≡ p x))
      → r ≡ any p n
  any-range ran e k = any_from_yields_List p u f r ran (YieldsList-from_range 0 n n e (let z : n - 0 ≡ n = omega arith in z)) k ∙ list_any-range p n

same_option : (r : Option ℕ) → option_map (λ x. x) r ≡ r
same_option None = refl
same_option (Some x) = refl

module _ {F : Type 0} {g : Mut F (Bor ℕ × Unit {0}) Bool} {s : Range ℕ} {f : F} (p : ℕ → Bool) (n : ℕ) (r : Option ℕ) (u : Range ℕ) where
  -- `find`, with the range's end where nothing is found
  pub first-range :
      (xs : List ℕ) × (j : F) × YieldsThen nat_range_steps s xs r u × FoldsTo (λ p x q. CalledAt g p x false q) f xs j
      × MatchOption r ⊤ (λ x. (h : F) × CalledAt g j x true h)
      → s ≡ record { start = 0; end = n }
      → ((x : ℕ) (b : Bool) (q : F) → CalledAt g f x b q → (q ≡ f) × (b ≡ p x))
      → unwrap_or r n ≡ first p n
  first-range ran e k =
      first-of p n r
      (subst (Finds p n 0) (sym (find_from_yields_List p u f r ran (YieldsList-from_range 0 n n e (let z : n - 0 ≡ n = omega arith in z)) k) ∙ same_option r) (finds p n 0))

cond-one : (b : Bool) → cond b 1 0 ≡ one b
cond-one true = refl
cond-one false = refl

module _ (p : ℕ → Bool) where
  count_by-from : (n a : ℕ) → count_by p (range_with_len a n) ≡ tally (λ i. p (a + i)) n
  unfolding tally
  count_by-from zero a = refl
  count_by-from (suc n) a =
      let q : ℕ → Bool = λ i. p (a + i) in
      let z : a ≡ a + 0 = omega arith in
      let m : 1 + n ≡ suc n = omega arith in
      let f = sum_by-cons (λ x. cond (p x) 1 0) a (range_with_len (a + 1) n) in
      let h : cond (p a) 1 0 ≡ one (p (a + 0)) = cond-one (p a) ∙ ap (λ x. one (p x)) z in
      let r = count_by-from n (a + 1) in
      let e = tally-ext (λ i. p (a + 1 + i)) (λ i. q (1 + i)) n (λ k l. let w : a + 1 + k ≡ a + (1 + k) = omega arith in ap p w) in
      let s = tally-split q 1 n in
      let u = ap (tally q) m in
      omega arith

  count_by-range : (n : ℕ) → count_by p (range_with_len 0 n) ≡ tally p n
  count_by-range n = count_by-from n 0 ∙ tally-ext (λ i. p (0 + i)) p n (λ k l. let e : 0 + k ≡ k = omega arith in ap p e)

-- `(0..n).filter(f).count()`: at how many indices f says yes. Cite it as
-- `count-range p n c.count.ensures.ran c.filter.ensures.source c.filter.ensures.closure (λ x b q k. search (rules, tests))`.
pub count-range :
    {F : Type 0} {g : Mut F (Bor ℕ × Unit {0}) Bool} {s : Filter (Range ℕ) F} {f : F} {r : ℕ} (p : ℕ → Bool) (n : ℕ)
    → (xs : List ℕ) × Drains (filter_steps nat_range_steps g) s xs × (r ≡ length xs)
    → filter_source s ≡ record { start = 0; end = n }
    → filter_callee s ≡ f
    → ((x : ℕ) (b : Bool) (q : F) → CalledAt g f x b q → (q ≡ f) × (b ≡ p x))
    → r ≡ tally p n
count-range {g = g} {r = r} p n ran e h k =
    count_from_yields_List _ r ran (YieldsList-from_filter g p (YieldsList-from_range 0 n n e (let z : n - 0 ≡ n = omega arith in z)) h k)
    ∙ length-filter p (range_with_len 0 n)
    ∙ count_by-range p n

-- `(0..n).fold(init, f)`: what holds at 0 of the start, and with each call of one index more, holds at n of the result. Cite it as
-- `fold-range P n (λ i a b q l p k. search (rules, tests, ..)) c.fold.ensures.ran refl ..`.
pub fold-range :
    {B F : Type 0} {g : Mut F (B × (ℕ × Unit {0})) B} {f : F} (P : ℕ → B → Type 0) (n : ℕ)
    → ((i : ℕ) (a b : B) (q : F) → i < n → P i a → Called g f (a, (i, tt)) b q → (q ≡ f) × P (i + 1) b) → {s : Range ℕ} {init r : B}
    → (xs : List ℕ) × (j : F) × Drains nat_range_steps s xs × FoldsTo {P = F × B} (FoldTurn g) (f, init) xs (j, r)
    → s ≡ record { start = 0; end = n } → P 0 init → P n r
fold-range {g = g} {f = f} P n turn {r = r} ran e p =
    let size : length (range_with_len 0 n) ≡ n = length-range_with_len 0 n in
    subst (λ (k : ℕ). P k r) size
    (fold-holds (YieldsList-from_range 0 n n e (let z : n - 0 ≡ n = omega arith in z)) P (λ k a x b q l here h w.
    let below : k < n = omega (arith, size) in
    let is : x ≡ k = omega (arith, here, get_or-range_with_len 0 n k x below) in
    turn k a b q below h (subst (λ (y : ℕ). Called g f (a, (y, tt)) b q) is w)) ran p)
