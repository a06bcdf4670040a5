-- What a row declares and what arrow it has, one law for each way out of the code: an answer of a call, and what the branch on it says.
-- Assumes nothing.
use Prim.Native.Nat.{ℕ, ◌≤◌}
use mathlib.Core.Bool.{Bool, cond, false, true}
use mathlib.Core.List.{List}
use mathlib.Core.Path.{◌≡◌, refl, sym, ◌∙◌}
use lib.Dec.{eqb}
use borrow.Author.Rules.{rules}
use borrow.Author.Tests.{eqb-false, eqb-true, lt-ltb, ne_eqb}
use native.Mathlib.Omega.{arith}
use Rattle.std.specs.Prelude.{Option, None, Some, IsSomeAnd, unwrap_or}
use Rattle.std.specs.Option.{MatchOption}
use Rattle.text_parts.specs.Sort.{number_of, sort_number}
use Rattle.text_parts.specs.declared.Sort.{Sort}
use Rattle.text_parts.specs.declared.Sort.TheVariants.{Association, Composition}
use Rattle.texts.specs.Table.{Symbol, arrow_in, class_for, passes, what_in}

-- 23 is the class of "composition"
keyword : (k : ℕ) (w : Sort) → (k ≡ 23 → w ≡ Composition) → ((k ≡ 23 → ⊥) → w ≡ Association) → sort_number w ≡ cond (eqb k 23) 6 5
keyword k w y z = go (eqb k 23) refl
  where
    go : (b : Bool) → eqb k 23 ≡ b → sort_number w ≡ cond b 6 5
    go true t = rw (y (eqb-true k 23 t))
    go false t = rw (z (eqb-false k 23 t))

module _ (row : List Symbol) {class : Bool} (c : class ≡ passes 8 row) where
  pub what-singleton : {a : Bool} → class ≡ true → a ≡ passes 4 row → a ≡ true → 3 ≡ what_in row
  unfolding what_in
  what-singleton t p q = rw (sym c ∙ t, sym p ∙ q)

  pub what-abstract : {a b : Bool} → class ≡ true → a ≡ passes 4 row → a ≡ false → b ≡ passes 6 row → b ≡ true → 1 ≡ what_in row
  unfolding what_in
  what-abstract t p q u v = rw (sym c ∙ t, sym p ∙ q, sym u ∙ v)

  pub what-class : {a b : Bool} → class ≡ true → a ≡ passes 4 row → a ≡ false → b ≡ passes 6 row → b ≡ false → 0 ≡ what_in row
  unfolding what_in
  what-class t p q u v = rw (sym c ∙ t, sym p ∙ q, sym u ∙ v)

  pub what-interface : {a : Bool} → class ≡ false → a ≡ passes 17 row → a ≡ true → 2 ≡ what_in row
  unfolding what_in
  what-interface t p q = rw (sym c ∙ t, sym p ∙ q)

  module _ {face : Bool} (f : class ≡ false) (i : face ≡ passes 17 row) (n : face ≡ false) where
    pub what-enumeration : {a : Bool} → a ≡ passes 21 row → a ≡ true → 4 ≡ what_in row
    unfolding what_in
    what-enumeration p q = rw (sym c ∙ f, sym i ∙ n, sym p ∙ q)

    module _ {a : Bool} (p : a ≡ passes 21 row) (q : a ≡ false) where
      -- an association, by the class of its keyword
      pub what-keyword : (o : Option ℕ) (r : Option Sort) {P : ℕ → Sort → Type 0} → unwrap_or o 29 ≡ class_for 25 row → ((k : ℕ) → o ≡ Some k → k ≤ 28)
          → MatchOption o (r ≡ None) (λ k. IsSomeAnd r (P k)) → ((k : ℕ) (w : Sort) → P k w → k ≡ 23 → w ≡ Composition)
          → ((k : ℕ) (w : Sort) → P k w → (k ≡ 23 → ⊥) → w ≡ Association) → number_of r ≡ what_in row
      unfolding what_in passes
      what-keyword None r e l m y z = rw (sym c ∙ f, sym i ∙ n, sym p ∙ q, sym e, m)
      what-keyword (Some k) None e l m y z = elim m [ ]
      what-keyword (Some k) (Some w) e l m y z =
          let b = l k refl in
          rw (sym c ∙ f, sym i ∙ n, sym p ∙ q, sym e, lt-ltb k 29 (omega arith)) (keyword k w (y k w m) (z k w m))

-- ---- arrows

pub no-arrow : (k : ℕ) → (k ≡ 0 → ⊥) → (k ≡ 1 → ⊥) → (k ≡ 2 → ⊥) → (k ≡ 3 → ⊥) → 0 ≡ arrow_in k
unfolding arrow_in
no-arrow k p q u v = rw (ne_eqb k 0 p, ne_eqb k 1 q, ne_eqb k 2 u, ne_eqb k 3 v)

-- for `search`
pub ruleset cases = (
  rules,
  what-singleton,
  what-abstract,
  what-class,
  what-interface,
  what-enumeration,
)
