-- 02 4/12: the fields of a diagram file of edition e, written in edition e'. 0x10 says the edition, each 0x50 has its limits in that
-- edition's numbers, and all other contents stay.
-- Assumes nothing.
use Rattle.std.specs.Prelude.{ℕ, cond, List, [], ◌∷◌, eqb}
use Rattle.files.specs.DiagramBytes.{association_bytes}
use Rattle.files.specs.DiagramLayout.{association_of}
use Rattle.files.specs.Field.{Rows, cut, end, row}

-- the content c of a field of tag t
unfoldable pub in_edition : ℕ → ℕ → ℕ → List ℕ → List ℕ
in_edition e e' t c = cond (eqb t 0x10) (e' ∷ []) (cond (eqb t 0x50) (association_bytes e' (association_of e c)) c)

unfoldable pub rows_in : ℕ → ℕ → Rows → Rows
rows_in e e' end = end
rows_in e e' cut = cut
rows_in e e' (row t c rest) = row t (in_edition e e' t c) (rows_in e e' rest)
