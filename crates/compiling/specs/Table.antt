-- What the code's table of arrows says: at each place a kind, 0 for none, and a side.
-- Assumes nothing.
use Rattle.std.specs.Prelude.{ℕ, cond, List, [], ◌∷◌, map, eqb}
use Rattle.files.specs.Diagram.{Association, is_composition}
use Rattle.rules.specs.Compile.{Asked, Entry, bare, by_rule6, by_rule7, entry_for, kind5}
use Rattle.rules.specs.Evaluate.{side_of}

-- kind 1 is asked by rule 6 and kind 3 by rule 7
unfoldable pub asked : ℕ → ℕ → List Asked
asked kind side =
    cond (eqb kind 0) [] (cond (eqb kind 5) (kind5 ∷ []) (cond (eqb kind 1) (by_rule6 (side_of side) ∷ []) (by_rule7 (side_of side) ∷ [])))

-- the entries of association i that a row asks for
unfoldable pub entries_for : ℕ → Association → List Asked → List Entry
entries_for i a row = map (entry_for i a) row

-- "A composition adds kind 6 last."
unfoldable pub whole_for : ℕ → Association → List Entry
whole_for i a = cond (is_composition a) (bare 6 i ∷ []) []
