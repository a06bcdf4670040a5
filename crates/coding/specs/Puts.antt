-- What a writer of replies gives, for every buffer: the bytes at the front, before the tail that was there; or nothing, and the
-- buffer as it came, where they do not fit.
-- Assumes nothing.
use Rattle.std.specs.Prelude.{ℕ, ◌<◌, ◌≤◌, List, ◌≡◌, length, Option, None, Some}
use Rattle.laws.specs.Lists.{over}

pub record Puts (xs before : List ℕ) (n : Option ℕ) (after : List ℕ) : Type 0 where
  pub fits : length xs ≤ length before → (n ≡ Some (length xs)) × (after ≡ over xs before)
  pub not-fits : length before < length xs → (n ≡ None) × (after ≡ before)
