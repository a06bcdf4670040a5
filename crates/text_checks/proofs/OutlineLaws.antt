-- The loops over an outline, which has n declarations: an index below n is that of a declaration.
-- Assumes nothing.
use mathlib.Core.Path.{◌≡◌}
use mathlib.Core.Bool.{Bool}
use mathlib.Core.List.{List}
use Prim.Native.Nat.{ℕ, ◌<◌, ◌≤◌}
use native.Mathlib.Omega.{arith}
use lib.ListN.{length}
use Rattle.texts.specs.Declaration.{Declaration, declaration_at}
use Rattle.text_rows.specs.RowAt.{declarations_by}
use Rattle.text_outlines.specs.declared.Outlined.{Outlined}
use Rattle.text_outlines.specs.Outline.{Outlines}

-- the test of declaration k
abbrev pub test_at : (Declaration → Bool) → List ℕ → ℕ → Bool
test_at test body k = test (declaration_at (declarations_by body) k)

module _ {body : List ℕ} {o : List Outlined} {n k : ℕ} (t : Outlines body o n) where
  pub outline-below : k < n → k < length (declarations_by body)
  outline-below h = let e = t.count-is in omega arith

  pub outline-upto : k ≤ n → k ≤ length (declarations_by body)
  outline-upto h = let e = t.count-is in omega arith

  -- where the loop ends
  pub outline-end : k ≤ n → n ≤ k → k ≡ length (declarations_by body)
  outline-end h l = let e = t.count-is in omega arith
