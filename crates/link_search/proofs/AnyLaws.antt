-- The library's `any` over a slice of structs, said of the indices below its length.
-- Assumes nothing.
use Prim.Native.Nat.{ℕ, zero, suc, ◌≤◌}
use native.Mathlib.Omega.{arith}
use native.Mathlib.Numerals.{add-one}
use native.Mathlib.Nat.{le_refl}
use mathlib.Core.Bool.{Bool, true, false, ◌||◌}
use mathlib.Core.List.{List}
use mathlib.Core.Path.{◌≡◌, refl, sym, ap, ◌∙◌}
use lib.ListN.{length, get_or, take}
use lib.Seq.{take-length}
use denote.Param.Members.{Mut}
use Rattle.std.specs.Borrow.{Bor}
use Rattle.std.specs.declared.option.Option.{Option}
use Rattle.std.specs.declared.slice.Iter.{Iter}
use Rattle.std.specs.Slice.Iter.{iter_rest}
use Rattle.std.proofs.lemmas.Fn.{fronts}
use Rattle.std.specs.Iterator.{YieldsThen}
use Rattle.std.specs.List.{FoldsTo, list_any}
use Rattle.std.specs.Fn.{Called}
use Rattle.std.specs.Option.{MatchOption}
use Rattle.std.proofs.lemmas.Iterator.{YieldsList-from_slice}
use Rattle.std.proofs.lemmas.Iterator.Search.{any_from_yields_List}
use Rattle.std.proofs.lemmas.List.Folds.{list_any_more}
use Rattle.laws.specs.Bounded.{any}

module _ {A : Type 0} (d : A) (p : A → Bool) (xs : List A) where
  list_any-take : (k : ℕ) → k ≤ length xs → list_any p (take k xs) ≡ any (λ i. p (get_or xs i d)) k
  unfolding any
  list_any-take zero h = refl
  list_any-take (suc k) h =
      ap (λ (m : ℕ). list_any p (take m xs)) (sym (add-one k)) ∙ list_any_more p xs k d (omega arith)
      ∙ ap (λ (b : Bool). b || p (get_or xs k d)) (list_any-take k (omega arith))

  list_any-each : list_any p xs ≡ any (λ i. p (get_or xs i d)) (length xs)
  list_any-each = ap (list_any p) (sym (take-length xs)) ∙ list_any-take (length xs) (le_refl (length xs))

module _ {A F : Type 0} {g : Mut F (Bor A × Unit {0}) Bool} {s u : Iter A} {f : F} {r : Bool} (d : A) (p : A → Bool) (xs : List A) where
  pub any-each :
      (ys : List (Bor A)) × (o : Option (Bor A)) × (j : F) × YieldsThen fronts s ys o u × FoldsTo (λ p x q. Called g p (x, tt) false q) f ys j
      × MatchOption o (r ≡ false) (λ x. (r ≡ true) × ((h : F) × Called g j (x, tt) true h))
      → iter_rest s ≡ xs
      → ((x : Bor A) (b : Bool) (q : F) → Called g f (x, tt) b q → (q ≡ f) × (b ≡ p x.now))
      → r ≡ any (λ i. p (get_or xs i d)) (length xs)
  any-each ran e k = any_from_yields_List p u f r ran (YieldsList-from_slice xs e) k ∙ list_any-each d p xs
