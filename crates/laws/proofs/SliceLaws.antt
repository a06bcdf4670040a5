-- The library's tests over a slice of numbers, said of the indices below its length.
-- Assumes nothing.
use Prim.Native.Nat.{ℕ, zero, suc, ◌+◌, ◌-◌, ◌<◌, ◌≤◌}
use native.Mathlib.Omega.{arith}
use native.Mathlib.Numerals.{add-one}
use native.Mathlib.Nat.{le_refl}
use mathlib.Core.Bool.{Bool, true, false, ◌&&◌, ◌||◌}
use mathlib.Core.List.{List}
use mathlib.Core.Path.{◌≡◌, refl, sym, ap, ◌∙◌}
use lib.ListN.{length, get_or, take}
use lib.Seq.{take-length}
use denote.Param.Members.{Mut}
use Rattle.std.specs.Borrow.{Bor}
use Rattle.std.specs.declared.option.Option.{Option}
use Rattle.std.specs.declared.slice.Iter.{Iter}
use Rattle.std.specs.Slice.Iter.{iter_rest}
use Rattle.std.proofs.lemmas.Fn.{fronts}
use Rattle.std.specs.Iterator.{YieldsThen}
use Rattle.std.specs.List.{FoldsTo, IsAllAdjacentAnswer, list_all, list_any}
use Rattle.std.specs.Fn.{Called}
use Rattle.std.specs.Option.{MatchOption}
use Rattle.std.proofs.lemmas.Iterator.{YieldsList-from_slice}
use Rattle.std.proofs.lemmas.Iterator.Search.{all_from_yields_List}
use Rattle.std.proofs.lemmas.List.Folds.{list_all_more, list_any_more}
use Rattle.laws.specs.Bounded.{all, any}
use Rattle.laws.proofs.BoundedLaws.{all_of, all-not}

module _ (p : ℕ → Bool) (xs : List ℕ) where
  list_all-take : (k : ℕ) → k ≤ length xs → list_all p (take k xs) ≡ all (λ i. p (get_or xs i 0)) k
  unfolding all
  list_all-take zero h = refl
  list_all-take (suc k) h =
      ap (λ (m : ℕ). list_all p (take m xs)) (sym (add-one k)) ∙ list_all_more p xs k 0 (omega arith)
      ∙ ap (λ (b : Bool). b && p (get_or xs k 0)) (list_all-take k (omega arith))

  list_any-take : (k : ℕ) → k ≤ length xs → list_any p (take k xs) ≡ any (λ i. p (get_or xs i 0)) k
  unfolding any
  list_any-take zero h = refl
  list_any-take (suc k) h =
      ap (λ (m : ℕ). list_any p (take m xs)) (sym (add-one k)) ∙ list_any_more p xs k 0 (omega arith)
      ∙ ap (λ (b : Bool). b || p (get_or xs k 0)) (list_any-take k (omega arith))

  pub list_all-slice : list_all p xs ≡ all (λ i. p (get_or xs i 0)) (length xs)
  list_all-slice = ap (list_all p) (sym (take-length xs)) ∙ list_all-take (length xs) (le_refl (length xs))

  pub list_any-slice : list_any p xs ≡ any (λ i. p (get_or xs i 0)) (length xs)
  list_any-slice = ap (list_any p) (sym (take-length xs)) ∙ list_any-take (length xs) (le_refl (length xs))

module _ {F : Type 0} {g : Mut F (Bor ℕ × Unit {0}) Bool} {s u : Iter ℕ} {f : F} {r : Bool} (p : ℕ → Bool) (xs : List ℕ) where
  pub all-slice :
      (ys : List (Bor ℕ)) × (o : Option (Bor ℕ)) × (j : F) × YieldsThen fronts s ys o u × FoldsTo (λ p x q. Called g p (x, tt) true q) f ys j
      × MatchOption o (r ≡ true) (λ x. (r ≡ false) × ((h : F) × Called g j (x, tt) false h))
      → iter_rest s ≡ xs
      → ((x : Bor ℕ) (b : Bool) (q : F) → Called g f (x, tt) b q → (q ≡ f) × (b ≡ p x.now))
      → r ≡ all (λ i. p (get_or xs i 0)) (length xs)
  all-slice ran e k = all_from_yields_List p u f r ran (YieldsList-from_slice xs e) k ∙ list_all-slice p xs

-- what `is_sorted_by` says, where the closure gives e of an element and the next
pub sorted-slice : (e : ℕ → ℕ → Bool) (xs : List ℕ) (r : Bool) → IsAllAdjacentAnswer (λ x y b. b ≡ e x y) xs r
    → r ≡ all (λ k. e (get_or xs k 0) (get_or xs (suc k) 0)) (length xs - 1)
sorted-slice e xs true f =
    sym (all_of _ (length xs - 1) (λ k l. ap (λ (i : ℕ). e (get_or xs k 0) (get_or xs i 0)) (sym (add-one k)) ∙ sym (f k 0 (omega arith))))
sorted-slice e xs false w =
    sym
    (all-not _ (length xs - 1) w.0 (let l : w.0 + 1 < length xs = w.1 in omega arith)
    (ap (λ (i : ℕ). e (get_or xs w.0 0) (get_or xs i 0)) (sym (add-one w.0)) ∙ sym (w.2 0)))
