-- The lines of associations as numbers of the arrays, before anything is said of a diagram. The left end of association j is end
-- j * 2, the right one j * 2 + 1.
-- Assumes nothing.
use Rattle.std.specs.Prelude.{◌*◌, ◌+◌, ◌<◌, min, ℕ, Bool, cond, not, List, ◌≡◌, eqb, ltb, get_or}
use Rattle.laws.specs.Connective.{both, either}
use Rattle.rules.specs.Arrow.{counted_left, counted_right, mirrors}
use Rattle.worlds.specs.declared.Column.{Column}
use Rattle.worlds.specs.declared.Lines.{Lines}
use Rattle.worlds.specs.declared.Mirror.{Mirror}
use Rattle.worlds.specs.declared.Whole.{Whole}
use Rattle.worlds.specs.Lined.{column_at, mirror_at, whole_at}

-- the element at i where the test holds, else 0
unfoldable pub element_if : Bool → List ℕ → ℕ → ℕ
element_if on l i = cond on (get_or l i 0) 0

-- the right end or the left one
unfoldable pub end_if : Bool → ℕ → ℕ
end_if right j = cond right (j * 2 + 1) (j * 2)

-- ---- rule 7: the end that the counted links go to, and the one that they come from

unfoldable pub counted : List ℕ → ℕ → Bool
counted arrows j = either (counted_right (get_or arrows j 0)) (counted_left (get_or arrows j 0))

unfoldable pub counted_to : List ℕ → ℕ → ℕ
counted_to arrows j = end_if (counted_right (get_or arrows j 0)) j

unfoldable pub counted_from : List ℕ → ℕ → ℕ
counted_from arrows j = end_if (not (counted_right (get_or arrows j 0))) j

-- ---- rule 8, rule 9

unfoldable pub mirrored : List ℕ → ℕ → Bool
mirrored arrows j = mirrors (get_or arrows j 0)

unfoldable pub composed : List ℕ → ℕ → Bool
composed forms j = eqb (get_or forms j 0) 1

-- ---- what association j asks by each rule, if it is one of n

unfoldable pub column_by : List ℕ → List ℕ → List ℕ → List ℕ → List ℕ → ℕ → ℕ → Column
column_by sets slots arrows lows ups n j = record {
  slot = element_if (both (ltb j n) (counted arrows j)) slots (counted_to arrows j);
  from = element_if (both (ltb j n) (counted arrows j)) sets (counted_from arrows j);
  to = element_if (both (ltb j n) (counted arrows j)) sets (counted_to arrows j);
  low = cond (ltb j n) (min 9 (get_or lows (counted_from arrows j) 0)) 0;
  high = cond (ltb j n) (min 8 (get_or ups (counted_from arrows j) 0)) 8;
}

unfoldable pub mirror_by : List ℕ → List ℕ → List ℕ → ℕ → ℕ → Mirror
mirror_by sets slots arrows n j = record {
  right = element_if (both (ltb j n) (mirrored arrows j)) slots (j * 2 + 1);
  left = element_if (both (ltb j n) (mirrored arrows j)) slots (j * 2);
  from = element_if (both (ltb j n) (mirrored arrows j)) sets (j * 2);
  to = element_if (both (ltb j n) (mirrored arrows j)) sets (j * 2 + 1);
}

unfoldable pub whole_by : List ℕ → List ℕ → List ℕ → ℕ → ℕ → Whole
whole_by sets slots forms n j = record {
  slot = element_if (both (ltb j n) (composed forms j)) slots (j * 2 + 1);
  from = element_if (both (ltb j n) (composed forms j)) sets (j * 2);
  to = element_if (both (ltb j n) (composed forms j)) sets (j * 2 + 1);
}

-- what n associations ask
pub record LinesIn (sets slots arrows forms lows ups : List ℕ) (n : ℕ) (x : Lines) : Type 0 where
  pub column : (j : ℕ) → j < 16 → column_at x j ≡ column_by sets slots arrows lows ups n j
  pub mirror : (j : ℕ) → j < 16 → mirror_at x j ≡ mirror_by sets slots arrows n j
  pub whole : (j : ℕ) → j < 16 → whole_at x j ≡ whole_by sets slots forms n j
