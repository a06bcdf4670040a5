-- 02 1/12, "Checks": "23 for text outside the grammar, a name over 16 bytes or a cardinality that 01 forbids; 24 for an association
-- end that is no declared type, or a parent not declared before as the kind its keyword calls for ..; order 10, 23, 24, then 4 for
-- any count over 01's limits, 5 (a parent named twice too), 8". Each is tried over the whole text before the next.
-- Assumes nothing.
use Rattle.std.specs.Prelude.{ℕ, Bool, false, not, List, [], ◌∷◌, eqb, ltb, get_or, length}
use Rattle.laws.specs.Bounded.{any, tally}
use Rattle.laws.specs.Connective.{both, either, refuse}
use Rattle.laws.specs.Lists.{member, picked}
use Rattle.files.specs.Diagram.{Limits, Upper, at_most, no_limit}
use Rattle.files.specs.Limit.{most_of}
use Rattle.files.specs.Name.{Name, differ, same_name}
use Rattle.texts.specs.Declaration.{Declaration, declaration_at, declarations, is_association, is_class, is_enumeration, is_interface_type, is_type}
use Rattle.texts.specs.Declared.{parent_names, types_before, used_types, value_types_of}
use Rattle.texts.specs.Grammar.{Item, Tree, item_names}

-- ---- 23: "a name over 16 bytes"

unfoldable pub is_long : Name → Bool
is_long w = ltb 16 (length w)

unfoldable pub long_items : List Item → Bool
long_items [] = false
long_items (i ∷ is) = either (member is_long (item_names i)) (long_items is)

unfoldable pub has_long_name : Tree → Bool
has_long_name t = either (is_long t.name) (long_items t.items)

-- ---- 23: "a cardinality that 01 forbids"; 01: "up is .. not below low"; 02 3/12: "range 0 to 4,000", "Text takes the wider range too."

unfoldable pub upper_forbidden : ℕ → Upper → Bool
upper_forbidden low (at_most up) = either (ltb (most_of 2) up) (ltb up low)
upper_forbidden low no_limit = false

unfoldable pub limits_forbidden : Limits → Bool
limits_forbidden l = either (ltb (most_of 2) l.low) (upper_forbidden l.low l.up)

unfoldable pub ends_forbidden : Declaration → Bool
ends_forbidden d = either (limits_forbidden d.left_end.limits) (limits_forbidden d.right_end.limits)

unfoldable pub has_forbidden : List Declaration → Bool
has_forbidden ds = any (λ k. ends_forbidden (declaration_at ds k)) (length ds)

-- ---- 24

-- one of the first k declarations is of that kind and has the name w
unfoldable pub is_declared : (Declaration → Bool) → List Declaration → ℕ → Name → Bool
is_declared kind ds k w = any (λ j. both (kind (declaration_at ds j)) (same_name (declaration_at ds j).name w)) k

-- "a parent not declared before as the kind its keyword calls for (a class after a class's `extends`, else an interface)"
unfoldable pub has_unknown_parent : List Declaration → ℕ → Bool
has_unknown_parent ds k =
    let d = declaration_at ds k in
    either (any (λ i. not (is_declared is_class ds k (get_or d.superclasses i []))) (length d.superclasses))
    (any (λ i. not (is_declared is_interface_type ds k (get_or d.interfaces i []))) (length d.interfaces))

-- "an association end that is no declared type"; "Association ends may be declared anywhere."
unfoldable pub has_unknown_end : List Declaration → ℕ → Bool
has_unknown_end ds k =
    let d = declaration_at ds k in
    both (is_association d) (either (not (is_declared is_type ds (length ds) d.left_end.type)) (not (is_declared is_type ds (length ds) d.right_end.type)))

unfoldable pub has_unknown : List Declaration → Bool
has_unknown ds = any (λ k. either (has_unknown_parent ds k) (has_unknown_end ds k)) (length ds)

-- ---- 4: "any count over 01's limits"

unfoldable pub is_overfull : List Declaration → Bool
is_overfull ds =
    either (ltb 12 (length (value_types_of ds)))
    (either (ltb 24 (types_before ds (length ds)))
    (either (ltb 32 (length (used_types ds)))
    (either (ltb 16 (tally (λ k. is_association (declaration_at ds k)) (length ds)))
    (any (λ k. either (ltb 8 (length (declaration_at ds k).constants)) (ltb 4 (length (parent_names (declaration_at ds k))))) (length ds)))))

-- ---- 5: 01 "a name twice where it must differ", "a parent named twice too"

abbrev pub names_of_kind : (Declaration → Bool) → List Declaration → List Name
names_of_kind kind ds = picked (λ k. kind (declaration_at ds k)) (λ k. (declaration_at ds k).name) (length ds)

unfoldable pub has_twice : List Declaration → Bool
has_twice ds =
    either (not (differ (names_of_kind is_enumeration ds)))
    (either (not (differ (names_of_kind is_type ds)))
    (any (λ k. either (not (differ (declaration_at ds k).constants)) (not (differ (parent_names (declaration_at ds k))))) (length ds)))

-- ---- 8: "a composition with arrow 2"

unfoldable pub has_whole_right : List Declaration → Bool
has_whole_right ds = any (λ k. both (eqb (declaration_at ds k).what 6) (eqb (declaration_at ds k).arrow 2)) (length ds)

-- ---- in order

-- what comes behind 23
unfoldable pub declared_refusal : List Declaration → ℕ
declared_refusal ds = refuse (has_unknown ds) 24 (refuse (is_overfull ds) 4 (refuse (has_twice ds) 5 (refuse (has_whole_right ds) 8 0)))

unfoldable pub text_refusal : Tree → ℕ
text_refusal t = refuse (either (has_long_name t) (has_forbidden (declarations t))) 23 (declared_refusal (declarations t))
