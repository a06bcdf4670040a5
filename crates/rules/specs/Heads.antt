-- 02 2/12: "Two diagrams that differ only in ↔ against no arrowhead". Where every line without an arrowhead is drawn with both, such
-- two are one diagram: `all_headed old ≡ all_headed new`. Any of their lines may differ so, in either direction.
-- Assumes nothing.
use Rattle.std.specs.Prelude.{ℕ, cond, map, eqb}
use Rattle.files.specs.Diagram.{Association, Diagram}

-- 3 for 4, every other arrow as it is
unfoldable pub headed : ℕ → ℕ
headed arrow = cond (eqb arrow 4) 3 arrow

unfoldable pub headed_at : Association → Association
headed_at a = record { form = a.form; arrow = headed a.arrow; left = a.left; right = a.right }

unfoldable pub all_headed : Diagram → Diagram
all_headed d = record { value_types = d.value_types; types = d.types; attributes = d.attributes; associations = map headed_at d.associations }
