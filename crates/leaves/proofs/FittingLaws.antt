-- The test of types, taken apart and put together.
-- Assumes nothing.
use Prim.Native.Nat.{◌<◌, ◌≤◌, ℕ}
use native.Mathlib.Omega.{arith}
use mathlib.Core.Bool.{Bool, cond, false, not, true}
use mathlib.Core.List.{List}
use mathlib.Core.Path.{◌≡◌, ◌∙◌, ap, refl, sym}
use borrow.Author.Tests.{eq-eqb, eqb-true, le-leb, le-ltb, leb-true, lt-ltb, ltb-false, ltb-true, not-true}
use lib.Dec.{eqb, leb, ltb}
use lib.ListN.{get_or}
use Rattle.laws.specs.Bits.{bit}
use Rattle.laws.specs.Bounded.{all, tally}
use Rattle.laws.specs.Connective.{both}
use Rattle.laws.proofs.BoundedLaws.{all-at, all_of}
use Rattle.laws.proofs.ConnectiveLaws.{and_both, and_left, and_right, both_left, both_of, both_right, imp-of, imp_use}
use Rattle.worlds.specs.declared.Query.{Query}
use Rattle.leaves.specs.Fitting.{count_of, single_fits, type_fits, typed, types_fit}

-- what the test says
pub record Fit (usable singles : ℕ) (q : Query) (types : List ℕ) (n : ℕ) : Type 0 where
  pub many : q.seeds ≤ n
  pub usable-types : (o : ℕ) → o < n → typed types usable o ≡ true
  pub single : (t : ℕ) → t < 24 → bit t singles ≡ true → tally (λ o. eqb (get_or types o 0) t) n ≡ 1
  pub wanted : (o : ℕ) → o < q.seeds → typed types (get_or q.types o 0) o ≡ true
  pub never : (o : ℕ) → q.seeds ≤ o → o < n → typed types q.never o ≡ false

module _ (usable singles : ℕ) (q : Query) (types : List ℕ) (n : ℕ) where
  -- what the query asks of the type of a seed, and of another object
  abbrev by_query : ℕ → Bool → Bool
  by_query o seed = cond seed (typed types (get_or q.types o 0) o) (not (typed types q.never o))

  -- the tests of one object, and of one type
  abbrev one : ℕ → Bool
  one = type_fits usable q.seeds q.types q.never types

  abbrev single-one : ℕ → Bool
  single-one = single_fits singles types n

  pub fit_at : types_fit usable singles q types n ≡ true → Fit usable singles q types n
  unfolding types_fit type_fits single_fits count_of
  fit_at e =
      let m = leb-true q.seeds n (both_left (leb q.seeds n) _ e) in
      let r = both_right (leb q.seeds n) (both (all one n) (all single-one 24)) e in
      let a = all-at one n (both_left (all one n) (all single-one 24) r) in
      let b = all-at single-one 24 (both_right (all one n) (all single-one 24) r) in
      let side : (o : ℕ) → o < n → by_query o (ltb o q.seeds) ≡ true = λ o h. and_right (typed types usable o) (by_query o (ltb o q.seeds)) (a o h) in
      record {
        many = m;
        usable-types = λ o h. and_left (typed types usable o) _ (a o h);
        single = λ t h s. eqb-true _ 1 (imp_use (bit t singles) _ (b t h) s);
        wanted = λ o h. ap (by_query o) (sym (lt-ltb o q.seeds h)) ∙ side o (omega arith);
        never = λ o h l. not-true _ (ap (by_query o) (sym (le-ltb o q.seeds h)) ∙ side o l);
      }

  pub fit_of : Fit usable singles q types n → types_fit usable singles q types n ≡ true
  unfolding types_fit type_fits single_fits count_of
  fit_of f =
      both_of (leb q.seeds n) _ (le-leb q.seeds n f.many)
      (both_of (all one n) (all single-one 24)
      (all_of one n (λ o h. and_both (typed types usable o) _ (f.usable-types o h) (side o h (ltb o q.seeds) refl)))
      (all_of single-one 24 (λ t h. imp-of (bit t singles) _ (λ s. eq-eqb _ 1 (f.single t h s)))))
    where
      side : (o : ℕ) → o < n → (b : Bool) → ltb o q.seeds ≡ b → by_query o b ≡ true
      side o h true e = f.wanted o (ltb-true o q.seeds e)
      side o h false e = ap not (f.never o (ltb-false o q.seeds e) h)
