-- 01 "The nine rules": arrows, the two sides of an association, and limits.
-- "An association has left type L, role r1, limits l1..u1; right type R, role r2, limits l2..u2."
-- Assumes nothing.
use Rattle.std.specs.Prelude.{ℕ, Bool, true, eqb, leb}
use Rattle.laws.specs.Connective.{both, either}
use Rattle.files.specs.Diagram.{Association, End, Limits, Upper, at_most, no_limit}

-- ---- arrows: a rule looks at an arrow through these tests only

-- "Arrows 1, 3, 4 carry r2 links (L to R)"
unfoldable pub carries_right : ℕ → Bool
carries_right arrow = either (eqb arrow 1) (either (eqb arrow 3) (eqb arrow 4))

-- "2, 3, 4 carry r1 links (R to L)"
unfoldable pub carries_left : ℕ → Bool
carries_left arrow = either (eqb arrow 2) (either (eqb arrow 3) (eqb arrow 4))

-- rule 7: "Arrow 1: each instance of R is the r2 target of .."
unfoldable pub counted_right : ℕ → Bool
counted_right arrow = eqb arrow 1

-- rule 7: "Arrow 2: each instance of L is the r1 target of .."
unfoldable pub counted_left : ℕ → Bool
counted_left arrow = eqb arrow 2

-- rule 8: "Arrow 3", and by 02 "arrow 4 mirrors as arrow 3 does"
unfoldable pub mirrors : ℕ → Bool
mirrors arrow = either (eqb arrow 3) (eqb arrow 4)

-- ---- sides: "side (0 for r2, 1 for r1)". Links of side r2 go from the left end to the right one, of r1 back.

pub data Side : Type 0 where
  r2 r1 : Side

-- the end that a side's links come from
abbrev pub source : Side → Association → End
source r2 a = a.left
source r1 a = a.right

-- the end that they go to, which has their role
abbrev pub target : Side → Association → End
target r2 a = a.right
target r1 a = a.left

abbrev pub carries : Side → Association → Bool
carries r2 a = carries_right a.arrow
carries r1 a = carries_left a.arrow

abbrev pub counted_from : Side → Association → Bool
counted_from r2 a = counted_right a.arrow
counted_from r1 a = counted_left a.arrow

-- ---- limits: "l2 to u2 of them"

unfoldable pub not_above : ℕ → Upper → Bool
not_above n (at_most most) = leb n most
not_above n no_limit = true

unfoldable pub within : Limits → ℕ → Bool
within limits n = both (leb limits.low n) (not_above n limits.up)
