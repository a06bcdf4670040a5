-- The library's `any` over a range, where it says yes: at some index the closure does.
-- Assumes nothing.
use Prim.Native.Nat.{ℕ, ◌+◌, ◌-◌, ◌<◌}
use native.Mathlib.Omega.{arith}
use mathlib.Core.Bool.{Bool, false, true, false≢true}
use mathlib.Core.List.{List}
use mathlib.Core.Path.{◌≡◌, subst, ◌∙◌}
use denote.Param.Members.{Mut}
use Rattle.std.specs.declared.option.Option.{Option}
use Rattle.std.specs.Prelude.{MatchBool, ⊤}
use Rattle.std.specs.declared.ops.Range.{Range}
use Rattle.std.specs.Iterator.{YieldsThen}
use Rattle.std.specs.List.{FoldsTo, HoldsAt, range_with_len}
use Rattle.std.specs.Fn.{Called}
use Rattle.std.specs.Option.{MatchOption}
use lib.ListN.{get_or, length}
use Rattle.std.proofs.iter.Yields.{nat_range_steps}
use Rattle.std.proofs.lemmas.Iterator.{YieldsList-from_range, cases_from_any}
use Rattle.std.proofs.lemmas.List.FromFn.{get_or-range_with_len, length-range_with_len}

module _ {F : Type 0} {g : Mut F (ℕ × Unit {0}) Bool} {s u : Range ℕ} {f : F} {r : Bool} (P : ℕ → Type 0) (n : ℕ) where
  pub any-index :
      (xs : List ℕ) × (o : Option ℕ) × (j : F) × YieldsThen nat_range_steps s xs o u × FoldsTo (λ p x q. Called g p (x, tt) false q) f xs j
      × MatchOption o (r ≡ false) (λ x. (r ≡ true) × ((h : F) × Called g j (x, tt) true h))
      → s ≡ record { start = 0; end = n }
      → ((x : ℕ) (q : F) → Called g f (x, tt) true q → P x)
      → ((x : ℕ) (q : F) → Called g f (x, tt) false q → q ≡ f)
      → r ≡ true → (k : ℕ) × (k < n) × P k
  any-index ran e hit miss t =
      told _ r t (cases_from_any u f r P (λ x. ⊤) ran (YieldsList-from_range 0 n n e (let z : n - 0 ≡ n = omega arith in z)) hit (λ x q c. (miss x q c, tt)))
    where
      told : (N : Type 0) (b : Bool) → b ≡ true → MatchBool b ((k : ℕ) × (k < length (range_with_len 0 n)) × HoldsAt P (range_with_len 0 n) k) N → (k : ℕ) × (k < n) × P k
      told N false e m = absurd (false≢true e)
      told N true e (k, l, h) =
          let small : k < n = subst (λ (a : ℕ). k < a) (length-range_with_len 0 n) l in
          let is : get_or (range_with_len 0 n) k 0 ≡ k = get_or-range_with_len 0 n k 0 small ∙ (let z : 0 + k ≡ k = omega arith in z) in
          (k, small, subst P is (h 0))
