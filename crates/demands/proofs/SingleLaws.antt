-- A singleton that is not among the given objects is a need.
-- Assumes nothing.
use Rattle.std.specs.Prelude.{Option}
use Prim.Native.Nat.{◌+◌, ◌<◌, ◌≤◌, ℕ}
use mathlib.Core.Bool.{◌&&◌, ◌||◌, false, not, true}
use mathlib.Core.List.{List}
use mathlib.Core.Path.{◌∙◌, ◌≡◌, refl, sym}
use native.Mathlib.Omega.{arith}
use lib.Bits.{bit_and}
use lib.Dec.{eqb}
use lib.ListN.{get_or}
use borrow.Author.Tests.{eq-eqb, not-true}
use Rattle.laws.specs.Bits.{bit}
use Rattle.laws.proofs.BitLaws.{bit-zero, bit-both}
use Rattle.laws.proofs.BoundedLaws.{any-no}
use Rattle.laws.proofs.ConnectiveLaws.{and_left, and_right, or_right, true-false}
use Rattle.growing.specs.World.{World}
use Rattle.growing.specs.Demand.{extras}
use Rattle.growing.proofs.DemandLaws.{single-needs}
use Rattle.worlds.specs.Kept.{SinglesKept}
use Rattle.demands.specs.declared.Start.{Start}
use Rattle.demands.specs.Wishes.{Sharpens, Started, present}

-- a type of the mask of those that are missing is a singleton, and not there
pub missing-single : (types : List ℕ) (k singles here missing t : ℕ) → ((t : ℕ) → bit t here ≡ present types k t)
    → ((t : ℕ) → bit t missing ≡ bit t singles && not (bit t here)) → bit t missing ≡ true → (bit t singles ≡ true) × (present types k t ≡ false)
missing-single types k singles here missing t f g e =
    let h = sym (g t) ∙ e in
    (and_left (bit t singles) (not (bit t here)) h, sym (f t) ∙ not-true (bit t here) (and_right (bit t singles) (not (bit t here)) h))

module _ (s : Start) (singles t : ℕ) (small : t < 24) (single : bit t singles ≡ true) (new : present s.types.at s.k t ≡ false) where
  absent : (o : ℕ) → o < s.k → get_or s.types.at o 0 ≡ t → ⊥
  absent o l e = true-false (eq-eqb t (get_or s.types.at o 0) (sym e)) (any-no (λ o. eqb t (get_or s.types.at o 0)) s.k new o l)

  -- m is the mask of t
  single-need : (m : ℕ) → ((j : ℕ) → bit j m ≡ bit j 0 || eqb j t) → (w : World) → Started s w → SinglesKept singles w
      → 1 ≤ extras (bit_and m s.free) s.k w
  single-need m is w a h =
      single-needs S s.types.at s.k 0 (s.k + s.spare) s.free (λ v e p. p.0.extra) t (bit_and m s.free)
      (λ v p. let z = p.1.at t small single in omega arith) absent
      (λ e. bit-both t m s.free (is t ∙ or_right (bit t 0) (eqb t t) (eq-eqb t t refl)) e) w
      (record { few = a.few; many = a.many; kept = a.kept; avoids = λ o _ _. bit-zero (w.kind o) }) (a, h)
    where
      S : World → Type 0
      S v = Started s v × SinglesKept singles v

  pub single-sharp : (best r : Option ℕ) (m : ℕ) → ((j : ℕ) → bit j m ≡ bit j 0 || eqb j t)
      → Sharpens (λ w. 1 ≤ extras (bit_and m s.free) s.k w) s best r → Sharpens (SinglesKept singles) s best r
  single-sharp best r m is f = record { at = λ w a h. f.at w a (single-need m is w a h) }
