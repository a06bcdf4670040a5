-- The rows of the given objects are limits, and so is the row of the first object with limits of its own.
-- Assumes nothing.
use Rattle.std.specs.Prelude.{Option}
use Prim.Native.Nat.{◌*◌, ◌+◌, ◌<◌, max, min, ℕ}
use mathlib.Core.Bool.{Bool, false, true}
use mathlib.Core.List.{List}
use mathlib.Core.Logic.{⊎_elim}
use mathlib.Core.Path.{◌≡◌, subst}
use native.Mathlib.Omega.{arith}
use lib.ListN.{get_or}
use Rattle.laws.specs.Bits.{bit}
use Rattle.laws.proofs.ConnectiveLaws.{known, true-false}
use Rattle.growing.specs.World.{World, target_count}
use Rattle.link_search.specs.Nets.{InLimits}
use Rattle.demands.specs.declared.Start.{Start}
use Rattle.demands.specs.Wishes.{Limited, Sharpens, Started}
use Rattle.demands.specs.Families.{RowsOpen}

-- both limits hold
pub within_both : (a b c d low high n : ℕ) → low ≡ max a c → high ≡ min b d → InLimits a b n → InLimits c d n → InLimits low high n
within_both a b c d low high n e f u v = record { least = omega (arith, u.least, v.least); most = omega (arith, u.most, v.most) }

module _ (targets lows highs shut : List ℕ) (s : Start) (o i x y : ℕ) (given : o < s.k) (slot : i < 32) (from : x ≡ get_or s.types.at o 0 * 32 + i)
    (at : y ≡ o * 32 + i) where
  -- where the row stands, by the type that the object has
  place : (w : World) → Started s w → w.kind o * 32 + i ≡ x
  place w a = let e : w.kind o ≡ get_or s.types.at o 0 = a.kept o given in omega arith

  module _ (w : World) (a : Started s w) (h : RowsOpen targets lows highs shut w) where
    row_within : InLimits (get_or lows x 0) (get_or highs x 0) (target_count w i o)
    row_within =
        subst (λ (z : ℕ). InLimits (get_or lows z 0) (get_or highs z 0) (target_count w i o)) (place w a)
        (h.rows.limited i o slot (omega (arith, a.many)))

    row-limited : (low high : ℕ) → InLimits low high (target_count w i o) → Limited low high (get_or targets x 0) (get_or shut y 0) (λ p. w.link i o p) w
    row-limited low high l = record {
      within = l;
      typed = λ p b e. subst (λ (z : ℕ). bit (w.kind p) (get_or targets z 0) ≡ true) (place w a) (h.rows.allowed i o p slot (omega (arith, a.many)) b e);
      apart = λ p b e. ⊎_elim (λ z. absurd (true-false e (closed p b z))) (λ z. z) (known (bit p (get_or shut y 0)));
    }
      where
        closed : (p : ℕ) → p < w.size → bit p (get_or shut y 0) ≡ true → w.link i o p ≡ false
        closed p b z =
            h.apart o i p (omega (arith, a.many, a.eight)) slot (omega (arith, a.eight))
            (subst (λ (v : ℕ). bit p (get_or shut v 0) ≡ true) at z)

  -- ---- what the wish of limits says of a row, and of a row with limits of its own

  module _ (best r : Option ℕ) where
    pub row-sharp
        : Sharpens (λ w. (p : ℕ → Bool) × Limited (get_or lows x 0) (get_or highs x 0) (get_or targets x 0) (get_or shut y 0) p w) s best r
        → Sharpens (RowsOpen targets lows highs shut) s best r
    row-sharp f = record { at = λ w a h. f.at w a (w.link i o, row-limited w a h _ _ (row_within w a h)) }

    pub own-sharp : (low high lower upper : ℕ) → lower ≡ max (get_or lows x 0) low → upper ≡ min (get_or highs x 0) high
        → Sharpens (λ w. (p : ℕ → Bool) × Limited lower upper (get_or targets x 0) (get_or shut y 0) p w) s best r
        → Sharpens (λ w. RowsOpen targets lows highs shut w × InLimits low high (target_count w i o)) s best r
    own-sharp low high lower upper e g f = record {
      at = λ w a h. f.at w a
          (w.link i o, row-limited w a h.0 _ _ (within_both _ _ low high lower upper (target_count w i o) e g (row_within w a h.0) h.1));
    }
