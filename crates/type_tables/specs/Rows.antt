-- The ends of a diagram's associations by number, and their limits among 8 objects.
-- End e is the left end of association e / 2 where e is even, else its right end; links go to an end from the opposite one.
-- Assumes nothing.
use Rattle.std.specs.Prelude.{◌%◌, ◌+◌, ◌-◌, ◌/◌, min, ℕ, Bool, cond, eqb}
use Rattle.files.specs.Diagram.{Diagram, End, Upper, association_at, at_most, no_limit}
use Rattle.rules.specs.Arrow.{carries_left, carries_right}

-- an upper limit among 8 objects, and a lower one: more than 8 is as good as 9
unfoldable pub most : Upper → ℕ
most (at_most n) = min 8 n
most no_limit = 8

unfoldable pub least : ℕ → ℕ
least n = min 9 n

module _ (d : Diagram) where
  unfoldable pub end_at : ℕ → End
  end_at e = cond (eqb (e % 2) 0) (association_at d (e / 2)).left (association_at d (e / 2)).right

  unfoldable pub opposite : ℕ → ℕ
  opposite e = cond (eqb (e % 2) 0) (e + 1) (e - 1)

  -- the arrow carries links to end e
  unfoldable pub carried_to : ℕ → Bool
  carried_to e = cond (eqb (e % 2) 0) (carries_left (association_at d (e / 2)).arrow) (carries_right (association_at d (e / 2)).arrow)
