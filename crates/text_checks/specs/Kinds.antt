-- Declarations of a kind that are counted, or looked for by name.
-- Assumes nothing.
use Rattle.std.specs.Prelude.{ℕ, Bool, not, List, [], get_or, length}
use Rattle.laws.specs.Bounded.{any, tally}
use Rattle.laws.specs.Connective.{both}
use Rattle.laws.specs.Lists.{only}
use Rattle.files.specs.Name.{Name, same_name}
use Rattle.texts.specs.Declaration.{Declaration, declaration_at}
use Rattle.texts.specs.TextChecks.{is_declared}
use Rattle.text_parts.specs.declared.Kind.{Kind}
use Rattle.text_parts.specs.Sort.{of_kind}

unfoldable pub kind_count : Kind → List Declaration → ℕ
kind_count n ds = tally (λ k. of_kind n (declaration_at ds k)) (length ds)

-- it is of the kind and has the name w
abbrev pub declared_as : Kind → Name → Declaration → Bool
declared_as n w d = both (of_kind n d) (same_name d.name w)

-- its name where it is of the kind
abbrev pub name_as : Kind → Declaration → List Name
name_as n d = only (of_kind n d) d.name

-- one of the names ws is that of none of the first k declarations that are of the kind
unfoldable pub unknown_in : Kind → List Declaration → ℕ → List Name → Bool
unknown_in n ds k ws = any (λ i. not (is_declared (of_kind n) ds k (get_or ws i []))) (length ws)
