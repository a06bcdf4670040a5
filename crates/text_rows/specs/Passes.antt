-- A token that a walk over a text passes.
-- Assumes nothing.
use Rattle.std.specs.Prelude.{ℕ, ◌<◌, List, [], ◌≡◌, drop, length, Option, None, Some}
use Rattle.texts.specs.Table.{next}
use Rattle.text_rows.specs.Front.{Fronts, unblank}
use Rattle.text_rows.specs.declared.Passed.{Passed}

-- p is the one behind the blanks at the front of s, in the state q
pub record Passed_at (s : List ℕ) (q : ℕ) (p : Passed) : Type 0 where
  pub start-is : p.start.now ≡ unblank s
  pub some : 0 < length p.start.now
  pub tells : Fronts p.start.now p.front
  pub state-is : p.state.number ≡ next q p.front.class
  pub after-is : p.after.now ≡ drop p.front.size p.start.now

-- the next one, if there is one
abbrev pub Passes : List ℕ → ℕ → Option Passed → Type 0
Passes s q None = unblank s ≡ []
Passes s q (Some p) = Passed_at s q p
