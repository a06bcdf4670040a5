-- The outline of a text's body: what is known of each declaration once the text was walked over.
-- Assumes nothing.
use Rattle.std.specs.Prelude.{◌-◌, ◌<◌, ℕ, List, [], ◌≡◌, None, drop, get_or, length}
use Rattle.texts.specs.Declaration.{Declaration, declaration_at}
use Rattle.texts.specs.Declared.{parent_names}
use Rattle.text_rows.specs.Noted.{word_or}
use Rattle.text_rows.specs.RowAt.{declaration_by, declarations_by}
use Rattle.text_parts.specs.Sort.{number_of}
use Rattle.text_outlines.specs.declared.Outlined.{Outlined}

-- s is the end of body
abbrev pub Suffix : List ℕ → List ℕ → Type 0
Suffix body s = drop (length body - length s) body ≡ s

-- where it starts in the body, what it is, its name there, how many parents, attributes and constants it has
pub record Tells (body : List ℕ) (o : Outlined) (d : Declaration) : Type 0 where
  pub start_is : declaration_by (drop o.start body) ≡ d
  pub what-is : number_of o.what ≡ d.what
  pub name-is : word_or body o.name [] ≡ d.name
  pub parents-are : o.parents ≡ length (parent_names d)
  pub attributes-are : o.attributes ≡ length d.attribute_types
  pub constants-are : o.constants ≡ length d.constants

-- nothing is known yet
abbrev pub unoutlined : Outlined
unoutlined = record { start = 0; what = None; name = None; parents = 0; attributes = 0; constants = 0 }

-- There are n declarations, and that is known of the first 52: 01 allows 12 value types, 24 types and 16 associations.
pub record Outlines (s : List ℕ) (os : List Outlined) (n : ℕ) : Type 0 where
  pub size_is : length os ≡ 52
  pub count-is : n ≡ length (declarations_by s)
  pub each : (k : ℕ) → k < n → k < 52 → Tells s (get_or os k unoutlined) (declaration_at (declarations_by s) k)
