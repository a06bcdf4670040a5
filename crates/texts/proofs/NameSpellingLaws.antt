-- The names of a tree are words of its tokens: where each of these is spelled as a name, each name is, production by production.
-- Assumes nothing.
use Prim.Native.Nat.{ℕ}
use mathlib.Core.List.{List, [], ◌++◌, ◌∷◌}
use mathlib.Core.Option.{Option, none, some}
use mathlib.Core.Path.{subst}
use Rattle.files.specs.Name.{Name}
use Rattle.texts.specs.Grammar.{Belongs, Item, TextAttribute, Tree, arrow_token, association_item, attribute_names, attribute_tokens, body_names, body_tokens, cardinality_tokens, class_item, clause, close_brace, constant_tokens, enum_item, further, interface_item, item_names, item_tokens, items_tokens, modifier_tokens, optional, quoted, role_tokens, semicolon, tokens_of}
use Rattle.texts.specs.Token.{Token, word}
use Rattle.laws.proofs.EachLaws.{Each, each_back, each-front, each-join}
use Rattle.texts.proofs.SpellingLaws.{Spelled, SpelledToken, words-spelled}

abbrev Tokens : List Token → Type 0
Tokens ts = Each SpelledToken ts

abbrev Names : List Name → Type 0
Names ws = Each Spelled ws

front : (ts us : List Token) → Tokens (ts ++ us) → Tokens ts
front = each-front SpelledToken

back : (ts us : List Token) → Tokens (ts ++ us) → Tokens us
back = each_back SpelledToken

join : (vs ws : List Name) → Names vs → Names ws → Names (vs ++ ws)
join = each-join Spelled

further-spelled : (ws : List Name) → Tokens (further ws) → Names ws
unfolding further
further-spelled [] f = tt
further-spelled (w ∷ ws) f = (f.1.0, further-spelled ws f.1.1)

clause-spelled : (t : Token) (ws : List Name) → Tokens (clause t ws) → Names ws
unfolding clause
clause-spelled t [] f = tt
clause-spelled t (w ∷ ws) f = (f.1.0, further-spelled ws f.1.1)

attributes-spelled : (list : List TextAttribute) → Tokens (attribute_tokens list) → Names (attribute_names list)
unfolding attribute_tokens attribute_names
attributes-spelled [] f = tt
attributes-spelled (a ∷ rest) f = (f.0, (f.1.0, attributes-spelled rest f.1.1.1))

body_spelled : (body : Option (List TextAttribute)) → Tokens (body_tokens body) → Names (body_names body)
unfolding body_tokens
body_spelled none f = tt
body_spelled (some list) f = attributes-spelled list (front (attribute_tokens list) (close_brace ∷ []) f.1)

constants-spelled : (ws : List Name) → Tokens (constant_tokens ws) → Names ws
unfolding constant_tokens
constants-spelled [] f = tt
constants-spelled (c ∷ cs) f = (f.1.0, further-spelled cs (front (further cs) (semicolon ∷ close_brace ∷ []) f.1.1))

role-spelled : (role : Option Name) → Tokens (role_tokens role) → Names (optional role)
unfolding role_tokens
role-spelled none f = tt
role-spelled (some w) f = (f.1.0, tt)

item-spelled : (i : Item) → Tokens (item_tokens i) → Names (item_names i)
unfolding item_tokens item_names
item-spelled (class_item m n supers faces body) f =
    let rest = clause (quoted 3) faces ++ body_tokens body in
    let g = back (modifier_tokens m) (quoted 1 ∷ word n ∷ (clause (quoted 2) supers ++ rest)) f in
    let h = back (clause (quoted 2) supers) rest g.1.1 in (
      g.1.0,
      join supers (faces ++ body_names body) (clause-spelled (quoted 2) supers (front (clause (quoted 2) supers) rest g.1.1))
          (join faces (body_names body) (clause-spelled (quoted 3) faces (front (clause (quoted 3) faces) (body_tokens body) h))
          (body_spelled body (back (clause (quoted 3) faces) (body_tokens body) h))),
    )
item-spelled (interface_item n supers) f = (f.1.0, clause-spelled (quoted 2) supers (front (clause (quoted 2) supers) (semicolon ∷ []) f.1.1))
item-spelled (enum_item n constants) f = (f.1.0, constants-spelled constants f.1.1)
item-spelled (association_item e l a r) f =
    let last = word r.type ∷ (cardinality_tokens r.cardinality ++ (semicolon ∷ [])) in
    let second = role_tokens r.role ++ last in
    let first = role_tokens l.role ++ (arrow_token a ∷ second) in
    let g = back (cardinality_tokens l.cardinality) (word l.type ∷ first) f.1 in
    let h = back (role_tokens l.role) (arrow_token a ∷ second) g.1 in
    let k = back (role_tokens r.role) last h.1 in (
      g.0,
      join (optional l.role) (optional r.role ++ (r.type ∷ [])) (role-spelled l.role (front (role_tokens l.role) (arrow_token a ∷ second) g.1))
          (join (optional r.role) (r.type ∷ []) (role-spelled r.role (front (role_tokens r.role) last h.1)) (k.0, tt)),
    )

items-spelled : (is : List Item) → Tokens (items_tokens is) → Each (λ i. Names (item_names i)) is
unfolding items_tokens
items-spelled [] f = tt
items-spelled (i ∷ is) f = (item-spelled i (front (item_tokens i) (items_tokens is) f), items-spelled is (back (item_tokens i) (items_tokens is) f))

tree-spelled : (t : Tree) → Tokens (tokens_of t) → Each (λ i. Names (item_names i)) t.items
unfolding tokens_of
tree-spelled t f = items-spelled t.items (front (items_tokens t.items) (close_brace ∷ []) f.1.1.1)

-- each name of each item of a text
pub names-spelled : (s : List ℕ) (t : Tree) → Belongs s t → Each (λ i. Each Spelled (item_names i)) t.items
names-spelled s t b = tree-spelled t (subst Tokens b.written (words-spelled s))
