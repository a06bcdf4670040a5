-- A link that must stand, and must not, or has no allowed target, refutes a query.
-- Assumes nothing.
use Prim.Native.Nat.{◌*◌, ◌+◌, ◌<◌, ◌≤◌, ℕ}
use mathlib.Core.Bool.{◌||◌, false, not, true}
use mathlib.Core.List.{List}
use mathlib.Core.Logic.{⊎_elim}
use mathlib.Core.Path.{◌∙◌, ◌≡◌, ap, ap₂, sym}
use native.Mathlib.Omega.{arith}
use lib.ListN.{get_or}
use borrow.Author.Tests.{not-true}
use Rattle.laws.specs.Bits.{bit}
use Rattle.laws.specs.Bounded.{any}
use Rattle.laws.proofs.BoundedLaws.{any_at}
use Rattle.laws.proofs.ConnectiveLaws.{and_left, and_right, or_cases, true-false}
use Rattle.growing.specs.World.{World}
use Rattle.clashes.specs.Refuted.{Begun, BitsKept, Refuted, TargetsKept, bad_bit}

-- the row of object o in slot s stands at i, its targets at x
module _ (targets must shut types : List ℕ) (seeds o s i x : ℕ) (eight : seeds ≤ 8) (l : o < seeds) (small : s < 32) (at : i ≡ o * 32 + s) (e : x ≡ get_or types o 0 * 32 + s) where
  module _ (w : World) (b : Begun types seeds w) (bits : BitsKept must shut w) (table : TargetsKept targets w) where
    first : o < w.size
    first = omega (arith, b.many)

    place : o * 32 + s ≡ i
    place = omega arith

    row_at : w.kind o * 32 + s ≡ x
    row_at = let k : w.kind o ≡ get_or types o 0 = b.kept o (omega arith) in omega arith

    refute : (p : ℕ) → p < seeds → bad_bit (get_or must i 0) (get_or shut i 0) (get_or targets x 0) types p ≡ true → ⊥
    refute p h bad = ⊎_elim (λ z. true-false stands (stands-not z)) (λ z. true-false allowed (not-true (bit (get_or types p 0) (get_or targets x 0)) z))
        (or_cases (bit p (get_or shut i 0)) (not (bit (get_or types p 0) (get_or targets x 0))) (and_right (bit p (get_or must i 0)) (bit p (get_or shut i 0) || not (bit (get_or types p 0) (get_or targets x 0))) bad))
      where
        stands : w.link s o p ≡ true
        stands = bits.must-stand o s p (omega (arith, first, b.eight)) (omega arith) (omega arith)
            (ap (λ (y : ℕ). bit p (get_or must y 0)) place ∙ and_left (bit p (get_or must i 0)) (bit p (get_or shut i 0) || not (bit (get_or types p 0) (get_or targets x 0))) bad)

        stands-not : bit p (get_or shut i 0) ≡ true → w.link s o p ≡ false
        stands-not z = bits.must-not o s p (omega (arith, first, b.eight)) (omega arith) (omega arith)
            (ap (λ (y : ℕ). bit p (get_or shut y 0)) place ∙ z)

        allowed : bit (get_or types p 0) (get_or targets x 0) ≡ true
        allowed = ap₂ (λ (t y : ℕ). bit t (get_or targets y 0)) (sym (b.kept p h)) (sym row_at)
            ∙ table.at s o p (omega arith) first (omega (arith, b.many)) stands

  pub bad-row : any (bad_bit (get_or must i 0) (get_or shut i 0) (get_or targets x 0) types) seeds ≡ true
      → Refuted (λ w. BitsKept must shut w × TargetsKept targets w) types seeds
  bad-row found =
      let v = any_at (bad_bit (get_or must i 0) (get_or shut i 0) (get_or targets x 0) types) seeds found in
      record { at = λ w b h. refute w b h.0 h.1 v.0 v.1 v.2 }
