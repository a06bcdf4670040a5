-- Limits among 8 objects: a number is within a diagram's limits exactly when it lies within the capped ones of a table.
-- Assumes nothing.
use Prim.Native.Nat.{◌≤◌, ℕ}
use native.Mathlib.Omega.{arith}
use mathlib.Core.Bool.{true}
use mathlib.Core.Path.{◌≡◌, refl}
use borrow.Author.Tests.{le-leb, leb-true}
use Rattle.laws.proofs.ConnectiveLaws.{both_left, both_of, both_right}
use Rattle.files.specs.Diagram.{Limits, Upper, at_most, no_limit}
use Rattle.rules.specs.Arrow.{not_above, within}
use Rattle.link_search.specs.Nets.{InLimits}
use Rattle.type_tables.specs.Rows.{least, most}
use Rattle.type_tables.proofs.LimitLaws.{most-allows}

-- of 8 objects, no more than the capped limit
pub most-fits : (n : ℕ) (up : Upper) → n ≤ most up → not_above n up ≡ true
unfolding most not_above
most-fits n (at_most u) l = le-leb n u (omega arith)
most-fits n no_limit l = refl

pub least-allows : (n low : ℕ) → low ≤ n → least low ≤ n
unfolding least
least-allows n low l = omega arith

pub least_fits : (n low : ℕ) → n ≤ 8 → least low ≤ n → low ≤ n
unfolding least
least_fits n low l k = omega arith

pub within-capped : (limits : Limits) (n : ℕ) → n ≤ 8 → within limits n ≡ true → InLimits (least limits.low) (most limits.up) n
unfolding within
within-capped limits n l e = record { least = least-allows n limits.low (leb-true _ _ (both_left _ _ e)); most = most-allows n limits.up l (both_right _ _ e) }

pub capped-within : (limits : Limits) (n : ℕ) → n ≤ 8 → InLimits (least limits.low) (most limits.up) n → within limits n ≡ true
unfolding within
capped-within limits n l w = both_of _ _ (le-leb limits.low n (least_fits n limits.low l w.least)) (most-fits n limits.up w.most)
