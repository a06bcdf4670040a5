-- The link rules on masks: what the rules say once each type's instances are a mask of objects.
-- Assumes nothing.
use Rattle.std.specs.Prelude.{ℕ, ◌+◌, ◌*◌, Bool, List, get_or, Option, None, Some}
use Rattle.laws.specs.Connective.{both, imp, same}
use Rattle.laws.specs.Bounded.{all, tally}
use Rattle.laws.specs.Bits.{bit}
use Rattle.files.specs.Diagram.{Limits, Upper, at_most, no_limit}
use Rattle.rules.specs.Arrow.{within}
use Rattle.masks.specs.declared.Limits as stored

-- what the code's limits say
abbrev pub upper_of : Option ℕ → Upper
upper_of None = no_limit
upper_of (Some n) = at_most n

abbrev pub limits_of : stored.Limits → Limits
limits_of l = record { low = l.low; up = upper_of l.up }

-- object o has the link to p of the role in slot s
abbrev pub link_in : List ℕ → ℕ → ℕ → ℕ → Bool
link_in links s o p = bit p (get_or links (o * 32 + s) 0)

-- rule 6, for one object's targets among n objects
unfoldable pub row_fits : (ℕ → Bool) → ℕ → Limits → ℕ → Bool
row_fits targets to limits n = both (all (λ p. imp (targets p) (bit p to)) n) (within limits (tally targets n))

-- rule 6: for object o of `from`, and for each
unfoldable pub row_at_fits : List ℕ → ℕ → ℕ → ℕ → Limits → ℕ → ℕ → Bool
row_at_fits links s from to limits n o = imp (bit o from) (row_fits (link_in links s o) to limits n)

unfoldable pub rows_fit : List ℕ → ℕ → ℕ → ℕ → Limits → ℕ → Bool
rows_fit links s from to limits n = all (row_at_fits links s from to limits n) n

-- object o of `from` links to p, and how many do
unfoldable pub arrives_from : List ℕ → ℕ → ℕ → ℕ → ℕ → Bool
arrives_from links s from p o = both (bit o from) (link_in links s o p)

unfoldable pub arriving : List ℕ → ℕ → ℕ → ℕ → ℕ → ℕ
arriving links s from p n = tally (arrives_from links s from p) n

-- rule 7: for object p of `to`, and for each
unfoldable pub column_at_fits : List ℕ → ℕ → ℕ → ℕ → Limits → ℕ → ℕ → Bool
column_at_fits links s from to limits n p = imp (bit p to) (within limits (arriving links s from p n))

unfoldable pub columns_fit : List ℕ → ℕ → ℕ → ℕ → Limits → ℕ → Bool
columns_fit links s from to limits n = all (column_at_fits links s from to limits n) n

-- rule 8: slot s2 has the links to the right, slot s1 those to the left
unfoldable pub mirror_fits : List ℕ → ℕ → ℕ → ℕ → ℕ → ℕ → ℕ → Bool
mirror_fits links s2 s1 left right o p = imp (both (bit o left) (bit p right)) (same (link_in links s2 o p) (link_in links s1 p o))

unfoldable pub mirror_row_fits : List ℕ → ℕ → ℕ → ℕ → ℕ → ℕ → ℕ → Bool
mirror_row_fits links s2 s1 left right n o = all (mirror_fits links s2 s1 left right o) n

unfoldable pub mirrors_fit : List ℕ → ℕ → ℕ → ℕ → ℕ → ℕ → Bool
mirrors_fit links s2 s1 left right n = all (mirror_row_fits links s2 s1 left right n) n

-- rule 9: o is a whole of p by one composition
unfoldable pub whole_in : List ℕ → ℕ → ℕ → ℕ → ℕ → ℕ → Bool
whole_in links s left right p o = both (link_in links s o p) (both (bit o left) (bit p right))
