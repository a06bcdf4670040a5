-- The file's test of capped limits is the text's test of the limits: a number above 4,000 is still above it when it is capped at 4,001,
-- and two that are not above it are compared as they are.
-- Assumes nothing.
use Prim.Native.Nat.{min, ℕ, ◌<◌}
use mathlib.Core.Bool.{Bool, false, not, true, ◌||◌}
use mathlib.Core.Path.{◌≡◌, ap₂, refl, ◌∙◌}
use native.Mathlib.Decide.{dec_lt}
use native.Mathlib.Omega.{arith}
use borrow.Author.Tests.{le-leb, le-ltb, lt-leb, lt-ltb, ne_eqb}
use lib.Dec.{eqb, leb, ltb}
use Rattle.laws.specs.Connective.{both, either}
use Rattle.files.specs.Diagram.{Limits, Upper, at_most, no_limit}
use Rattle.files.specs.Limit.{limits_laid}
use Rattle.texts.specs.Declaration.{Declaration}
use Rattle.texts.specs.TextChecks.{ends_forbidden, limits_forbidden, upper_forbidden}
use Rattle.text_parts.specs.Ends.{Capped, capped, capped_upper}
use Rattle.text_parts.specs.declared.Limits.{Limits as CappedLimits}

-- an integer never says that there is no upper limit
is-finite : (n : ℕ) → eqb (min n 4001) 65535 ≡ false
is-finite n = ne_eqb (min n 4001) 65535 (λ e. omega arith)

test-is : (low : ℕ) (up : Upper) → not (limits_laid 2 (capped low) (capped_upper up)) ≡ either (ltb 4000 low) (upper_forbidden low up)
unfolding capped_upper either both upper_forbidden limits_laid
test-is low (at_most up) = go (dec_lt 4000 low) (dec_lt 4000 up) (dec_lt up low)
  where
    go : Dec (4000 < low) → Dec (4000 < up) → Dec (up < low)
        → not (both (leb (min low 4001) 4000) (either (both (leb (min up 4001) 4000) (leb (min low 4001) (min up 4001))) (eqb (min up 4001) 65535)))
        ≡ either (ltb 4000 low) (either (ltb 4000 up) (ltb up low))
    go (yes l) d m = rw (lt-leb (min low 4001) 4000 (omega arith), lt-ltb 4000 low l)
    go (no l) (yes k) m =
        rw (le-ltb 4000 low (omega arith), le-leb (min low 4001) 4000 (omega arith), is-finite up, lt-leb (min up 4001) 4000 (omega arith), lt-ltb 4000 up k)
    go (no l) (no k) (yes m) =
        rw (le-ltb 4000 low (omega arith), le-leb (min low 4001) 4000 (omega arith), is-finite up, le-leb (min up 4001) 4000 (omega arith), lt-leb (min low 4001) (min up 4001) (omega arith), le-ltb 4000 up (omega arith), lt-ltb up low m)
    go (no l) (no k) (no m) =
        rw (le-ltb 4000 low (omega arith), le-leb (min low 4001) 4000 (omega arith), is-finite up, le-leb (min up 4001) 4000 (omega arith), le-leb (min low 4001) (min up 4001) (omega arith), le-ltb 4000 up (omega arith), le-ltb up low (omega arith))
test-is low no_limit = go (dec_lt 4000 low)
  where
    go : Dec (4000 < low) → not (both (leb (min low 4001) 4000) (either (both (leb 65535 4000) (leb (min low 4001) 65535)) (eqb 65535 65535))) ≡ either (ltb 4000 low) false
    go (yes l) = rw (lt-leb (min low 4001) 4000 (omega arith), lt-ltb 4000 low l)
    go (no l) = rw (le-leb (min low 4001) 4000 (omega arith), le-ltb 4000 low (omega arith))

pub forbidden-is : (l : CappedLimits) (m : Limits) → Capped m l → not (limits_laid 2 l.low l.up) ≡ limits_forbidden m
unfolding limits_forbidden
forbidden-is l m c = ap₂ (λ (x y : ℕ). not (limits_laid 2 x y)) c.low-is c.up_is ∙ test-is m.low m.up

pub forbidden-ends : (d : Declaration) {a b : Bool} → a ≡ limits_forbidden d.left_end.limits → b ≡ limits_forbidden d.right_end.limits → a || b ≡ ends_forbidden d
unfolding ends_forbidden either
forbidden-ends d {a} {b} e f = go a ∙ ap₂ either e f
  where
    go : (x : Bool) → x || b ≡ either x b
    go true = refl
    go false = refl
