-- The declaration at the front of what is left of a text, and what is left behind it.
-- Assumes nothing.
use Rattle.std.specs.Prelude.{ℕ, ◌-◌, ◌<◌, List, [], ◌∷◌, map, ◌≡◌, drop, length, Option, None, Some}
use Rattle.std.specs.Borrow.{Bor}
use Rattle.texts.specs.Declaration.{Declaration}
use Rattle.texts.specs.Table.{Symbol, declaration_in, row_from, rows_from}
use Rattle.texts.specs.Token.{tokens}

-- its row of symbols
unfoldable pub row_at : List ℕ → List Symbol
row_at s = row_from 3 (tokens s)

-- what it declares
unfoldable pub declaration_by : List ℕ → Declaration
declaration_by s = declaration_in (row_at s)

-- all that is declared from here on
unfoldable pub declarations_by : List ℕ → List Declaration
declarations_by s = map declaration_in (rows_from 3 (tokens s))

-- t is what stands behind the row from state q at the front of s
pub record RowEnd (q : ℕ) (s t : List ℕ) : Type 0 where
  pub shorter : length t < length s
  pub is_end : t ≡ drop (length s - length t) s
  pub one_more : rows_from q (tokens s) ≡ row_from q (tokens s) ∷ rows_from 3 (tokens t)

-- what stands behind it, if it ends
pub record RowEnds (q : ℕ) (s : List ℕ) (after : Option (Bor (List ℕ))) : Type 0 where
  pub none_left : after ≡ None → rows_from q (tokens s) ≡ []
  pub ends : (t : Bor (List ℕ)) → after ≡ Some t → RowEnd q s t.now
