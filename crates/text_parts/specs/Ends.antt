-- The ends of an association in a text: which states of the table their parts lead to, and their limits as the code has them.
-- Assumes nothing.
use Rattle.std.specs.Prelude.{◌+◌, min, ℕ, Bool, cond, not, List, [], ◌≡◌, eqb, get_or, length}
use Rattle.files.specs.Diagram.{Limits, Upper, at_most, no_limit}
use Rattle.files.specs.Limit.{most_of, none_of}
use Rattle.files.specs.Name.{Name}
use Rattle.texts.specs.Declaration.{Declaration, DeclaredEnd}
use Rattle.texts.specs.Table.{Symbol, words_for}
use Rattle.text_parts.specs.declared.Limits.{Limits as CappedLimits}
use Rattle.text_parts.specs.declared.Side.{Side}
use Rattle.text_parts.specs.declared.Side.TheVariants.{Left, Right}

abbrev pub end_on : Side → Declaration → DeclaredEnd
end_on Left d = d.left_end
end_on Right d = d.right_end

-- an integer as the code has it: all that are larger than any limit are the one above the largest limit
abbrev pub capped : ℕ → ℕ
capped n = min n (most_of 2 + 1)

unfoldable pub capped_upper : Upper → ℕ
capped_upper (at_most n) = capped n
capped_upper no_limit = none_of 2

pub record Capped (l : Limits) (r : CappedLimits) : Type 0 where
  pub low-is : r.low ≡ capped l.low
  pub up_is : r.up ≡ capped_upper l.up

-- ---- roles

abbrev pub role_words : Side → List Symbol → List Name
role_words Left row = words_for 33 33 33 row
role_words Right row = words_for 37 37 37 row

-- a role is written
unfoldable pub role_given : Side → List Symbol → Bool
role_given side row = not (eqb (length (role_words side row)) 0)

-- the role where one is written, else the type's name
abbrev pub type_words : Side → List Symbol → List Name
type_words Left row = words_for 31 31 31 row
type_words Right row = words_for 39 39 39 row

unfoldable pub role_word : Side → List Symbol → Name
role_word side row = cond (role_given side row) (get_or (role_words side row) 0 []) (get_or (type_words side row) 0 [])
