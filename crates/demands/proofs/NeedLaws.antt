-- Laws of a need: so many extra objects have types of a mask. Without such a type, or without so many spare places, there is no world;
-- else one extra object has such a type. A lower limit that the first objects cannot meet is a need.
-- Assumes nothing.
use Rattle.std.specs.Prelude.{Option, Some}
use Prim.Native.Nat.{◌+◌, ◌-◌, ◌<◌, ◌≤◌, ℕ}
use mathlib.Core.Bool.{Bool}
use mathlib.Core.Path.{◌∙◌, ◌≡◌, ap, refl}
use native.Mathlib.Omega.{arith}
use lib.Bits.{bit_and}
use Rattle.laws.specs.Bits.{bit}
use Rattle.laws.proofs.BitLaws.{bit-zero, bit-both}
use Rattle.laws.proofs.ConnectiveLaws.{true-false}
use Rattle.growing.specs.World.{World}
use Rattle.growing.specs.Demand.{AtLeast, candidates, extras}
use Rattle.growing.proofs.SplitLaws.{from-least}
use Rattle.growing.proofs.DemandLaws.{needs-of}
use Rattle.demands.specs.declared.Start.{Start}
use Rattle.demands.specs.Wishes.{Limited, Right, Sharpens, Started}

module _ (s : Start) where
  module _ (w : World) (a : Started s w) where
    need-none : (g c : ℕ) → 0 < c → g ≡ 0 → c ≤ extras g s.k w → ⊥
    need-none g c h none need =
        let v = (from-least (λ o. bit (w.kind o) g) s.k w.size c need).1 h in
        true-false v.3 (ap (bit (w.kind v.0)) none ∙ bit-zero (w.kind v.0))

    need-room : (g c : ℕ) → s.spare < c → c ≤ extras g s.k w → ⊥
    need-room g c h need = let v = from-least (λ o. bit (w.kind o) g) s.k w.size c need in omega (arith, v.0, a.few)

    need-right : (g c : ℕ) → 0 < c → c ≤ extras g s.k w → Right s.k (Some g) w
    need-right g c h need =
        let v = (from-least (λ o. bit (w.kind o) g) s.k w.size c need).1 h in
        record { alive = refl; extra = λ _. record { at = v.0; past = v.1; below = v.2; small = a.known v.0 v.2; typed = v.3 } }

  -- ---- the ways out of `with_need`

  module _ (best : Option ℕ) (g c : ℕ) (some : 0 < c) where
    pub sharp-none : (r : Option ℕ) → g ≡ 0 → Sharpens (λ w. c ≤ extras g s.k w) s best r
    sharp-none r e = record { at = λ w a need _. absurd (need-none w a g c some e need) }

    pub sharp-room : (r : Option ℕ) → s.spare < c → Sharpens (λ w. c ≤ extras g s.k w) s best r
    sharp-room r h = record { at = λ w a need _. absurd (need-room w a g c h need) }

    pub sharp-need : Sharpens (λ w. c ≤ extras g s.k w) s best (Some g)
    sharp-need = record { at = λ w a need _. need-right w a g c some need }

  pub sharp-same : {P : World → Type 0} (best : Option ℕ) → Sharpens P s best best
  sharp-same best = record { at = λ w a p r. r }

  pub sharp-trans : {P : World → Type 0} (a b c : Option ℕ) → Sharpens P s a b → Sharpens P s b c → Sharpens P s a c
  sharp-trans a b c f g = record { at = λ w h p r. g.at w h p (f.at w h p r) }

  -- a property from which another follows
  pub sharp-from : {P Q : World → Type 0} (a b : Option ℕ) → ((w : World) → Started s w → Q w → P w) → Sharpens P s a b → Sharpens Q s a b
  sharp-from a b f g = record { at = λ w h q r. g.at w h (f w h q) r }

  -- ---- a need by limits

  module _ (low high mask shut : ℕ) where
    limited-need : (w : World) → Started s w → (p : ℕ → Bool) → Limited low high mask shut p w
        → low - candidates (λ t. bit t mask) (λ o. bit o shut) s.types.at s.k ≤ extras (bit_and mask s.free) s.k w
    limited-need w a p l =
        needs-of S s.types.at s.k 0 (s.k + s.spare) s.free (λ v e h. h.0.extra) (λ _. p) low (bit_and mask s.free) (λ t. bit t mask) (λ o. bit o shut) (λ v e h. h.1)
        (λ t x y. bit-both t mask s.free x y) w
        (record { few = a.few; many = a.many; kept = a.kept; avoids = λ o _ _. bit-zero (w.kind o) })
        (a, record { enough = l.within.least; typed = l.typed; free = l.apart })
      where
        S : World → Type 0
        S v = Started s v × AtLeast p low (λ t. bit t mask) (λ o. bit o shut) v

    module _ (best r : Option ℕ) where
      pub limits-cross : high < low → Sharpens (λ w. (p : ℕ → Bool) × Limited low high mask shut p w) s best r
      limits-cross h = record { at = λ w a l _. absurd (omega (arith, l.1.within.least, l.1.within.most)) }

      pub limits-need : (n : ℕ) → n ≡ candidates (λ t. bit t mask) (λ o. bit o shut) s.types.at s.k
          → Sharpens (λ w. low - n ≤ extras (bit_and mask s.free) s.k w) s best r → Sharpens (λ w. (p : ℕ → Bool) × Limited low high mask shut p w) s best r
      limits-need n e f = record { at = λ w a l. f.at w a (let z = limited-need w a l.0 l.1 in omega arith) }
