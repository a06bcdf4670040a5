-- A declaration with too many constants or parents.
-- Assumes nothing.
use mathlib.Core.Path.{◌≡◌, ap, ap₂, ◌∙◌}
use mathlib.Core.Bool.{Bool, ◌||◌}
use mathlib.Core.List.{List}
use Prim.Native.Nat.{ℕ}
use lib.Dec.{ltb}
use lib.ListN.{length}
use Rattle.laws.specs.Connective.{either}
use Rattle.laws.proofs.ConnectiveLaws.{or-is-either}
use Rattle.texts.specs.Declaration.{declaration_at}
use Rattle.texts.specs.Declared.{parent_names}
use Rattle.text_rows.specs.RowAt.{declarations_by}
use Rattle.text_checks.specs.Overlong.{overlong}
use Rattle.text_checks.proofs.OutlineLaws.{test_at}

pub either-of : {a b c d : Bool} → a ≡ c → b ≡ d → (a || b) ≡ either c d
either-of {a} {b} e f = or-is-either a b ∙ ap₂ (λ (x y : Bool). either x y) e f

-- as the code tells it of declaration k
pub overlong-at : (body : List ℕ) (k : ℕ) {a b : ℕ} → a ≡ length (declaration_at (declarations_by body) k).constants
    → b ≡ length (parent_names (declaration_at (declarations_by body) k)) → (ltb 8 a || ltb 4 b) ≡ test_at overlong body k
unfolding overlong
overlong-at body k e f = either-of (ap (ltb 8) e) (ap (ltb 4) f)
