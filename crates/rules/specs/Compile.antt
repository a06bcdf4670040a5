-- 01 "Compiled predicates": what a diagram compiles to.
-- Assumes nothing.
use Rattle.std.specs.Prelude.{◌*◌, ◌+◌, ◌-◌, ℕ, cond, List, [], ◌++◌, ◌∷◌, get_or, length, replicate}
use Rattle.laws.specs.Lists.{joined}
use Rattle.files.specs.Diagram.{Association, Diagram, Upper, association_at, at_most, is_composition, no_limit}
use Rattle.files.specs.Field.{two_bytes}
use Rattle.rules.specs.Arrow.{Side, r1, r2, source, target}

-- "Record bytes: kind, association, side (0 for r2, 1 for r1), low, up."
pub record Entry : Type 0 where
  pub kind : ℕ
  pub association : ℕ
  pub side : ℕ
  pub low : ℕ
  pub up : ℕ

-- by 02 "seven bytes, low and up taking two each, high byte first"
abbrev pub entry_bytes : Entry → List ℕ
entry_bytes e = e.kind ∷ e.association ∷ e.side ∷ (two_bytes e.low ++ two_bytes e.up)

-- what stands in an arrow's row: rule 6 at a side, rule 7 at a side, kind 5
pub data Asked : Type 0 where
  by_rule6 : Side → Asked
  by_rule7 : Side → Asked
  kind5 : Asked

-- "Each arrow's row in a fixed table says which records come, in order: → side 0 by rule 6, side 0 by rule 7; ← side 1,
-- side 1; ↔ side 0 and 1 by rule 6, then kind 5"; by 02 "the compiled row of arrow 4 gains BidiAssoc in the same spot as ↔".
-- By arrow; none has the number 0.
abbrev pub arrow_rows : List (List Asked)
arrow_rows =
    [] ∷
    (by_rule6 r2 ∷ by_rule7 r2 ∷ []) ∷
    (by_rule6 r1 ∷ by_rule7 r1 ∷ []) ∷
    (by_rule6 r2 ∷ by_rule6 r1 ∷ kind5 ∷ []) ∷
    (by_rule6 r2 ∷ by_rule6 r1 ∷ kind5 ∷ []) ∷ []

unfoldable pub row_of : Association → List Asked
row_of a = get_or arrow_rows a.arrow []

abbrev pub side_number : Side → ℕ
side_number r2 = 0
side_number r1 = 1

-- "1 ObjLUAttrib and 2 ObjLAttrib (rule 6, with and without upper limit), 3 ObjLU and 4 ObjL (rule 7, same)"
-- "Up is 0 for kinds 2 and 4"
unfoldable pub limited : ℕ → ℕ → Side → ℕ → Upper → Entry
limited kind i s low (at_most up) = record { kind = kind; association = i; side = side_number s; low = low; up = up }
limited kind i s low no_limit = record { kind = kind + 1; association = i; side = side_number s; low = low; up = 0 }

-- "kinds 5, 6 have side, low, up 0"
abbrev pub bare : ℕ → ℕ → Entry
bare kind i = record { kind = kind; association = i; side = 0; low = 0; up = 0 }

-- rule 6 has the limits of the end its links go to, rule 7 those of the end they come from
unfoldable pub entry_for : ℕ → Association → Asked → Entry
entry_for i a (by_rule6 s) = limited 1 i s (target s a).limits.low (target s a).limits.up
entry_for i a (by_rule7 s) = limited 3 i s (source s a).limits.low (source s a).limits.up
entry_for i a kind5 = bare 5 i

-- "A composition adds kind 6 last."
unfoldable pub entries_of : ℕ → Association → List Entry
entries_of i a =
    joined (λ k. entry_for i a (get_or (row_of a) k kind5) ∷ []) (length (row_of a))
    ++ cond (is_composition a) (bare 6 i ∷ []) []

-- "Associations in file order."
unfoldable pub compile : Diagram → List Entry
compile d = joined (λ i. entries_of i (association_at d i)) (length d.associations)

abbrev pub entry_at : List Entry → ℕ → Entry
entry_at es i = get_or es i (bare 0 0)

-- "the list has 64 entries"; by 02 "Compiled records, the zero ones past the number too, become seven bytes"
unfoldable pub compiled_bytes : Diagram → List ℕ
compiled_bytes d = joined (λ i. entry_bytes (entry_at (compile d) i)) (length (compile d)) ++ replicate (448 - 7 * length (compile d)) 0
