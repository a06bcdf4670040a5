-- The same as numbers of the arrays, before anything is said of a diagram.
-- Assumes nothing.
use Rattle.std.specs.Prelude.{ℕ, Bool, List, eqb, get_or}
use Rattle.laws.specs.Bounded.{any}
use Rattle.laws.specs.Connective.{both}

-- t is the image of one of the first m types that are chosen
unfoldable pub is_image : List ℕ → (ℕ → Bool) → ℕ → ℕ → Bool
is_image images chosen m t = any (λ i. both (eqb (get_or images i 0) t) (chosen i)) m
