-- A number of objects that an upper limit allows is within it among 8 objects.
-- Assumes nothing.
use Prim.Native.Nat.{◌≤◌, ℕ}
use native.Mathlib.Omega.{arith}
use mathlib.Core.Bool.{true}
use mathlib.Core.Path.{◌≡◌}
use borrow.Author.Tests.{leb-true}
use Rattle.files.specs.Diagram.{Upper, at_most, no_limit}
use Rattle.rules.specs.Arrow.{not_above}
use Rattle.type_tables.specs.Rows.{most}

pub most-allows : (n : ℕ) (up : Upper) → n ≤ 8 → not_above n up ≡ true → n ≤ most up
unfolding most not_above
most-allows n (at_most u) l e = let g : n ≤ u = leb-true n u e in omega arith
most-allows n no_limit l e = l
