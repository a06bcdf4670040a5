-- The counts that 01 limits: a declaration with too many constants or parents, and a text with too many types, attributes or
-- associations.
-- Assumes nothing.
use Rattle.std.specs.Prelude.{Bool, List, ltb, length}
use Rattle.laws.specs.Bounded.{any, tally}
use Rattle.laws.specs.Connective.{either}
use Rattle.texts.specs.Declaration.{Declaration, declaration_at, is_association}
use Rattle.texts.specs.Declared.{parent_names, types_before, used_types}

-- it has more than 8 constants or more than 4 parents
unfoldable pub overlong : Declaration → Bool
overlong d = either (ltb 8 (length d.constants)) (ltb 4 (length (parent_names d)))

unfoldable pub has_overlong : List Declaration → Bool
has_overlong ds = any (λ k. overlong (declaration_at ds k)) (length ds)

-- all of check 4 but the count of the value types
unfoldable pub has_many : List Declaration → Bool
has_many ds =
    either (ltb 24 (types_before ds (length ds)))
    (either (ltb 32 (length (used_types ds)))
    (either (ltb 16 (tally (λ k. is_association (declaration_at ds k)) (length ds))) (has_overlong ds)))
