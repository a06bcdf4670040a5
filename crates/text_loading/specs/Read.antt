-- What is known of a text that the table accepts with no name over 16 bytes, and of its body, which stands behind the first row.
-- Assumes nothing.
use Rattle.std.specs.Prelude.{ℕ, false, List, ◌≡◌}
use Rattle.texts.specs.Declaration.{declarations}
use Rattle.texts.specs.Grammar.{Belongs, Tree}
use Rattle.texts.specs.TextChecks.{has_forbidden, has_long_name, has_unknown}
use Rattle.text_rows.specs.RowAt.{declarations_by}

pub record Read (s body : List ℕ) : Type 0 where
  pub tree : Tree
  pub belongs : Belongs s tree
  pub short : has_long_name tree ≡ false
  pub declares : declarations_by body ≡ declarations tree

-- the body passes 23 and 24
pub record Known (body : List ℕ) : Type 0 where
  pub allowed : has_forbidden (declarations_by body) ≡ false
  pub known : has_unknown (declarations_by body) ≡ false
