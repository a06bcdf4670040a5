-- The table of the grammar takes the tokens of each tree, and reads from them what the tree says; and the tokens have one tree.
-- Assumes nothing.
use native.Mathlib.Omega.{arith}
use mathlib.Core.Bool.{true}
use mathlib.Core.List.{List, [], ◌++◌, ◌∷◌, append_assoc, map}
use mathlib.Core.Path.{◌∙◌, ◌≡◌, ap, ap₂, refl, subst, sym}
use lib.ListN.{drop, get_or}
use Rattle.laws.specs.Bounded.{any}
use Rattle.laws.specs.Connective.{both, either}
use Rattle.files.specs.Name.{Name}
use Rattle.texts.specs.Declaration.{Declaration, declaration_of, declarations}
use Rattle.texts.specs.Grammar.{Item, Tree, are_names, close_brace, item_integers, item_names, item_tokens, items_named, items_tokens, named, open_brace, quoted, tokens_of}
use Rattle.texts.specs.ReadText.{declarations_in}
use Rattle.texts.specs.Table.{Symbol, accepts, declaration_in, has_long_from, is_name_state, long_at, lookup, next, rows_from, symbol, words_for}
use Rattle.texts.specs.TextChecks.{has_long_name, is_long, long_items}
use Rattle.texts.specs.Token.{Token, class_of, is_name, word}
use Rattle.laws.proofs.ConnectiveLaws.{both_left, both_right, either-false}
use Rattle.texts.proofs.ItemDeclares.{row-declares, row-long}
use Rattle.texts.proofs.ItemRow.{row_of}
use Rattle.texts.proofs.ItemUnique.{row-unique}
use Rattle.texts.proofs.ItemWalk.{item-whole, name-leads}
use Rattle.texts.proofs.RowLaws.{Whole, last, long_row, step, whole-accepts, whole_long, whole-rows}
use Rattle.texts.proofs.TokenClassLaws.{quoted-class}

-- ---- the items, and the brace behind them

abbrev behind : List Item → List Token
behind is = items_tokens is ++ (close_brace ∷ [])

behind-next : (i : Item) (is : List Item) → behind (i ∷ is) ≡ item_tokens i ++ behind is
unfolding items_tokens
behind-next i is = append_assoc (item_tokens i) (items_tokens is) (close_brace ∷ [])

first-whole : (i : Item) (is : List Item) → items_named (i ∷ is) ≡ true → Whole 3 (item_tokens i) (row_of i)
unfolding items_named
first-whole i is h =
    let n = both_left (both (are_names (item_names i)) (item_integers i)) (items_named is) h in
    item-whole i (both_left _ _ n) (both_right (are_names (item_names i)) (item_integers i) n)

first-names : (i : Item) (is : List Item) → items_named (i ∷ is) ≡ true → are_names (item_names i) ≡ true
unfolding items_named
first-names i is h = both_left _ _ (both_left (both (are_names (item_names i)) (item_integers i)) (items_named is) h)

others-named : (i : Item) (is : List Item) → items_named (i ∷ is) ≡ true → items_named is ≡ true
unfolding items_named
others-named i is h = both_right (both (are_names (item_names i)) (item_integers i)) (items_named is) h

items-accepted : (is : List Item) → items_named is ≡ true → accepts 3 (behind is) ≡ true
unfolding accepts items_tokens class_of next lookup
items-accepted [] h = refl
items-accepted (i ∷ is) h =
    ap (accepts 3) (behind-next i is) ∙ whole-accepts (first-whole i is h) (behind is) ∙ items-accepted is (others-named i is h)

items-rows : (is : List Item) → items_named is ≡ true → rows_from 3 (behind is) ≡ map row_of is
unfolding rows_from items_tokens class_of next lookup
items-rows [] h = refl
items-rows (i ∷ is) h =
    ap (rows_from 3) (behind-next i is) ∙ whole-rows (first-whole i is h) (behind is)
    ∙ ap {B = List (List Symbol)} (λ rows. row_of i ∷ rows) (items-rows is (others-named i is h))

items-long : (is : List Item) → items_named is ≡ true → has_long_from 3 (behind is) ≡ long_items is
unfolding has_long_from long_items long_at items_tokens either class_of next lookup
items-long [] h = refl
items-long (i ∷ is) h =
    ap (has_long_from 3) (behind-next i is) ∙ whole_long (first-whole i is h) (behind is)
    ∙ ap₂ either (row-long i) (items-long is (others-named i is h))

-- ---- what stands before them: "classdiagram" Name "{"

abbrev head_tokens : Name → List Token
head_tokens w = quoted 0 ∷ word w ∷ open_brace ∷ []

abbrev head_row : Name → List Symbol
head_row w = symbol 1 (quoted 0) ∷ symbol 2 (word w) ∷ symbol 3 open_brace ∷ []

head-whole : (w : Name) → is_name w ≡ true → Whole 0 (head_tokens w) (head_row w)
unfolding class_of next lookup
head-whole w h = step (ap (next 0) (quoted-class 0 (omega arith))) refl (step (name-leads 1 2 refl refl refl w h) refl (last refl))

head-long : (w : Name) → long_row (head_row w) ≡ is_long w
unfolding long_row long_at is_name_state any both either
head-long w = either-false (is_long w)

named-name : (t : Tree) → named t ≡ true → is_name t.name ≡ true
unfolding named
named-name t h = both_left _ _ h

named-items : (t : Tree) → named t ≡ true → items_named t.items ≡ true
unfolding named
named-items t h = both_right (is_name t.name) (items_named t.items) h

-- ---- the tree

pub tree-accepts : (t : Tree) → named t ≡ true → accepts 0 (tokens_of t) ≡ true
unfolding tokens_of
tree-accepts t h = whole-accepts (head-whole t.name (named-name t h)) (behind t.items) ∙ items-accepted t.items (named-items t h)

tree-rows : (t : Tree) → named t ≡ true → rows_from 0 (tokens_of t) ≡ head_row t.name ∷ map row_of t.items
unfolding tokens_of
tree-rows t h =
    whole-rows (head-whole t.name (named-name t h)) (behind t.items)
    ∙ ap {B = List (List Symbol)} (λ rows. head_row t.name ∷ rows) (items-rows t.items (named-items t h))

pub tree-long : (t : Tree) → named t ≡ true → has_long_from 0 (tokens_of t) ≡ has_long_name t
unfolding tokens_of has_long_name
tree-long t h =
    whole_long (head-whole t.name (named-name t h)) (behind t.items)
    ∙ ap₂ either (head-long t.name) (items-long t.items (named-items t h))

rows-declare : (is : List Item) → items_named is ≡ true → map declaration_in (map row_of is) ≡ map declaration_of is
rows-declare [] h = refl
rows-declare (i ∷ is) h =
    ap₂ {C = List Declaration} (λ d ds. d ∷ ds) (row-declares i (first-names i is h)) (rows-declare is (others-named i is h))

pub tree-declares : (t : Tree) → named t ≡ true → declarations_in (tokens_of t) ≡ declarations t
unfolding declarations_in declarations
tree-declares t h = ap (λ (rows : List (List Symbol)). map declaration_in (drop 1 rows)) (tree-rows t h) ∙ rows-declare t.items (named-items t h)

-- ---- one tree

abbrev IsEmpty : List (List Symbol) → Type 0
IsEmpty [] = Unit {0}
IsEmpty (row ∷ rows) = ⊥

rows-unique : (is js : List Item) → items_named is ≡ true → items_named js ≡ true → map row_of is ≡ map row_of js → is ≡ js
rows-unique [] [] h k e = refl
rows-unique [] (j ∷ js) h k e = absurd (subst IsEmpty e tt)
rows-unique (i ∷ is) [] h k e = absurd (subst IsEmpty (sym e) tt)
rows-unique (i ∷ is) (j ∷ js) h k e =
    ap₂ {C = List Item} (λ x xs. x ∷ xs) (row-unique i j (first-names i is h) (first-names j js k) (ap (λ (rows : List (List Symbol)). get_or rows 0 []) e))
    (rows-unique is js (others-named i is h) (others-named j js k) (ap (drop 1) e))

name_in : List (List Symbol) → Name
name_in rows = get_or (words_for 2 2 2 (get_or rows 0 [])) 0 []

pub tree-unique : (t u : Tree) → named t ≡ true → named u ≡ true → tokens_of t ≡ tokens_of u → t ≡ u
unfolding name_in words_for either
tree-unique t u h k e =
    let rows : head_row t.name ∷ map row_of t.items ≡ head_row u.name ∷ map row_of u.items = sym (tree-rows t h) ∙ ap (rows_from 0) e ∙ tree-rows u k in
    let names : t.name ≡ u.name = ap name_in rows in
    let items : t.items ≡ u.items = rows-unique t.items u.items (named-items t h) (named-items u k) (ap (drop 1) rows) in
    λ i. record { name = names i; items = items i }

-- its first row is there
pub tree-headed : (t : Tree) → named t ≡ true → rows_from 0 (tokens_of t) ≡ [] → ⊥
tree-headed t h e = subst IsEmpty (sym e ∙ tree-rows t h) tt
