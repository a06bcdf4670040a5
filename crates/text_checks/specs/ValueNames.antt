-- The names of the value types that a text declares, as they are collected: the enumerations, then each attribute type that is not
-- there yet.
-- Assumes nothing.
use Rattle.std.specs.Prelude.{cond, List, [], ◌++◌, ◌∷◌}
use Rattle.laws.specs.Lists.{member}
use Rattle.files.specs.Name.{Name, same_name}
use Rattle.texts.specs.Declaration.{Declaration, is_enumeration}
use Rattle.texts.specs.Declared.{used_types}
use Rattle.texts.specs.TextChecks.{names_of_kind}

-- with w, unless it is there
unfoldable pub with_name : List Name → Name → List Name
with_name ns w = cond (member (λ v. same_name v w) ns) ns (ns ++ (w ∷ []))

unfoldable pub with_names : List Name → List Name → List Name
with_names ns [] = ns
with_names ns (w ∷ ws) = with_names (with_name ns w) ws

unfoldable pub value_names : List Declaration → List Name
value_names ds = with_names (names_of_kind is_enumeration ds) (used_types ds)
