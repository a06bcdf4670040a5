-- Each way out of reading a file or a text for a place, and of clearing one: the facts as the code has them, and the answer.
-- Assumes nothing.
use Prim.Native.Nat.{◌≤◌, ℕ}
use mathlib.Core.Option as math
use mathlib.Core.Path.{◌≡◌}
use borrow.Author.Tests.{le-ltb}
use Rattle.files.specs.Diagram.{Diagram}
use Rattle.files.specs.Refusal.{Answer, accepted, and_then, refused}
use Rattle.steps.specs.Step.{clear, in_place, placed}

module _ (p : ℕ) where
  pub read-refused : {n : ℕ} (a : Answer Diagram) → p ≤ 1 → refused n ≡ a → refused n ≡ placed p a
  unfolding placed in_place and_then
  read-refused a h is = rw (le-ltb 1 p h, ← is)

  pub read-done : {d : Diagram} (a : Answer Diagram) → p ≤ 1 → accepted d ≡ a → accepted (math.some d) ≡ placed p a
  unfolding placed in_place and_then
  read-done a h is = rw (le-ltb 1 p h, ← is)

  pub clear-done : p ≤ 1 → ◌≡◌ {A = Answer (math.Option Diagram)} (accepted math.none) (clear p)
  unfolding clear in_place
  clear-done h = rw (le-ltb 1 p h)
