-- Rule 9 by the tables: the wholes of an object over all compositions.
-- Assumes nothing.
use Rattle.std.specs.Prelude.{ℕ, ◌*◌, ◌+◌, Bool, List, eqb, leb, get_or}
use Rattle.laws.specs.Bits.{bit}
use Rattle.laws.specs.Bounded.{all, any, tally}
use Rattle.laws.specs.Connective.{both, imp}
use Rattle.diagrams.specs.declared.Associations.{Associations}
use Rattle.masks.specs.Masks.{whole_in}
use Rattle.link_rules.specs.LinksIn.{instances_in}

module _ (a : Associations) (links masks slots : List ℕ) where
  -- association i is a composition, and o a whole of p by it
  unfoldable pub whole_by_in : ℕ → ℕ → ℕ → Bool
  whole_by_in p i o =
      both (eqb (get_or a.forms i 0) 1)
      (whole_in links (get_or slots (i * 2 + 1) 0) (instances_in a masks (i * 2)) (instances_in a masks (i * 2 + 1)) p o)

  -- o is a whole of p by one of the first k associations, and by any
  unfoldable pub whole_among : ℕ → ℕ → ℕ → Bool
  whole_among p k o = any (λ i. whole_by_in p i o) k

  unfoldable pub is_whole_in : ℕ → ℕ → Bool
  is_whole_in p o = whole_among p a.count o

  unfoldable pub rule9_at_in : ℕ → ℕ → Bool
  rule9_at_in n p = leb (tally (is_whole_in p) n) 1

  unfoldable pub rule9_in : ℕ → Bool
  rule9_in n = all (rule9_at_in n) n

  -- p has at most one whole, if it is an instance of the right end of association i; and each object
  unfoldable pub one_whole_at_in : ℕ → ℕ → ℕ → Bool
  one_whole_at_in n i p = imp (bit p (instances_in a masks (i * 2 + 1))) (rule9_at_in n p)

  unfoldable pub one_whole_in : ℕ → ℕ → Bool
  one_whole_in n i = all (one_whole_at_in n i) n
