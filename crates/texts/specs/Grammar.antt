-- 02 1/12: the grammar, Listing 2.1 of source 000 as 02 amends it: what can be written, and how it is written, production by
-- production. A text belongs to the grammar where its tokens are those of such a tree.
-- Assumes nothing.
use Rattle.std.specs.Prelude.{ℕ, Bool, true, List, [], ◌++◌, ◌∷◌, ◌≡◌, get_or}
use Rattle.std.proofs.Math.Option.{Option, none, some}
use Rattle.laws.specs.Connective.{both}
use Rattle.files.specs.Name.{Name}
use Rattle.texts.specs.Token.{Token, is_integer, is_name, mark, quoted_words, singleton_word, tokens, word}

-- ---- trees: a constructor for each production; what may be left out is an `Option`, or a list that may be empty

-- "the only stereotype is `<<singleton>>`, `abstract` comes at most once and not beside it, both on classes alone"
pub data Modifier : Type 0 where
  plain : Modifier
  abstract : Modifier
  singleton : Modifier

pub record TextAttribute : Type 0 where
  pub type : Name
  pub name : Name

-- Cardinality = "[" ( "*" | Integer [ ".." ( Integer | "*" ) ] ) "]"; an integer is its digits
pub data Cardinality : Type 0 where
  many : Cardinality
  exactly : Name → Cardinality
  between : Name → Name → Cardinality
  at_least : Name → Cardinality

pub record TextEnd : Type 0 where
  pub cardinality : Option Cardinality
  pub type : Name
  pub role : Option Name

pub data Form : Type 0 where
  association : Form
  composition : Form

-- "The arrows are `->`, `<-`, `<->` and `--`."
pub data Arrow : Type 0 where
  right : Arrow
  left : Arrow
  both_ways : Arrow
  no-head : Arrow

pub data Item : Type 0 where
  class_item : Modifier → Name → List Name → List Name → Option (List TextAttribute) → Item  -- superclasses, superinterfaces, body
  interface_item : Name → List Name → Item
  enum_item : Name → List Name → Item
  association_item : Form → TextEnd → Arrow → TextEnd → Item

pub record Tree : Type 0 where
  pub name : Name
  pub items : List Item

-- ---- the words and marks that the productions quote

abbrev pub quoted : ℕ → Token
quoted i = word (get_or quoted_words i [])

abbrev pub open_brace : Token
open_brace = mark 7

abbrev pub close_brace : Token
close_brace = mark 8

abbrev pub semicolon : Token
semicolon = mark 9

abbrev pub comma : Token
comma = mark 10

abbrev pub star : Token
star = mark 15

-- ---- how a tree is written

-- { "," Name }
unfoldable pub further : List Name → List Token
further [] = []
further (w ∷ ws) = comma ∷ word w ∷ further ws

-- [ Word Name { "," Name } ]
unfoldable pub clause : Token → List Name → List Token
clause t [] = []
clause t (w ∷ ws) = t ∷ word w ∷ further ws

-- [ "<<" "singleton" ">>" | "abstract" ]
unfoldable pub modifier_tokens : Modifier → List Token
modifier_tokens plain = []
modifier_tokens abstract = quoted 8 ∷ []
modifier_tokens singleton = mark 4 ∷ word singleton_word ∷ mark 5 ∷ []

-- { Name Name ";" }: "attribute type is one name"
unfoldable pub attribute_tokens : List TextAttribute → List Token
attribute_tokens [] = []
attribute_tokens (a ∷ rest) = word a.type ∷ word a.name ∷ semicolon ∷ attribute_tokens rest

-- ";" | "{" { Attribute } "}"
unfoldable pub body_tokens : Option (List TextAttribute) → List Token
body_tokens none = semicolon ∷ []
body_tokens (some list) = open_brace ∷ (attribute_tokens list ++ (close_brace ∷ []))

-- ";" | "{" Name { "," Name } ";" "}"
unfoldable pub constant_tokens : List Name → List Token
constant_tokens [] = semicolon ∷ []
constant_tokens (c ∷ cs) = open_brace ∷ word c ∷ (further cs ++ (semicolon ∷ close_brace ∷ []))

unfoldable pub cardinality_tokens : Option Cardinality → List Token
cardinality_tokens none = []
cardinality_tokens (some many) = mark 13 ∷ star ∷ mark 14 ∷ []
cardinality_tokens (some (exactly n)) = mark 13 ∷ word n ∷ mark 14 ∷ []
cardinality_tokens (some (between n m)) = mark 13 ∷ word n ∷ mark 6 ∷ word m ∷ mark 14 ∷ []
cardinality_tokens (some (at_least n)) = mark 13 ∷ word n ∷ mark 6 ∷ star ∷ mark 14 ∷ []

-- [ "(" Name ")" ]
unfoldable pub role_tokens : Option Name → List Token
role_tokens none = []
role_tokens (some w) = mark 11 ∷ word w ∷ mark 12 ∷ []

unfoldable pub form_token : Form → Token
form_token association = quoted 6
form_token composition = quoted 7

unfoldable pub arrow_token : Arrow → Token
arrow_token both_ways = mark 0
arrow_token right = mark 1
arrow_token left = mark 2
arrow_token no-head = mark 3

-- Class = [ .. ] "class" Name [ "extends" Name { "," Name } ] [ "implements" Name { "," Name } ] ( ";" | "{" { Attribute } "}" )
-- Interface = "interface" Name [ "extends" Name { "," Name } ] ";"
-- Enum = "enum" Name ( ";" | "{" Name { "," Name } ";" "}" )
-- Association = ( "association" | "composition" ) [ Cardinality ] Name [ "(" Name ")" ] Arrow [ "(" Name ")" ] Name
--   [ Cardinality ] ";": "an association ends with a semicolon"
unfoldable pub item_tokens : Item → List Token
item_tokens (class_item m n supers faces body) =
    modifier_tokens m ++ (quoted 1 ∷ word n ∷ (clause (quoted 2) supers ++ (clause (quoted 3) faces ++ body_tokens body)))
item_tokens (interface_item n supers) = quoted 4 ∷ word n ∷ (clause (quoted 2) supers ++ (semicolon ∷ []))
item_tokens (enum_item n constants) = quoted 5 ∷ word n ∷ constant_tokens constants
item_tokens (association_item f l a r) =
    form_token f
    ∷ (cardinality_tokens l.cardinality
    ++ (word l.type
    ∷ (role_tokens l.role
    ++ (arrow_token a
    ∷ (role_tokens r.role ++ (word r.type ∷ (cardinality_tokens r.cardinality ++ (semicolon ∷ []))))))))

unfoldable pub items_tokens : List Item → List Token
items_tokens [] = []
items_tokens (i ∷ is) = item_tokens i ++ items_tokens is

-- "classdiagram" Name "{" { Class | Interface | Enum | Association } "}"
unfoldable pub tokens_of : Tree → List Token
tokens_of t = quoted 0 ∷ word t.name ∷ open_brace ∷ (items_tokens t.items ++ (close_brace ∷ []))

-- ---- its names and integers are such: "a quoted word of the listing is not a name", "An integer is a run of digits"

unfoldable pub are_names : List Name → Bool
are_names [] = true
are_names (w ∷ ws) = both (is_name w) (are_names ws)

unfoldable pub attribute_names : List TextAttribute → List Name
attribute_names [] = []
attribute_names (a ∷ rest) = a.type ∷ a.name ∷ attribute_names rest

abbrev pub body_names : Option (List TextAttribute) → List Name
body_names none = []
body_names (some list) = attribute_names list

abbrev pub optional : Option Name → List Name
optional none = []
optional (some w) = w ∷ []

abbrev pub end_integers : Option Cardinality → Bool
end_integers none = true
end_integers (some many) = true
end_integers (some (exactly n)) = is_integer n
end_integers (some (between n m)) = both (is_integer n) (is_integer m)
end_integers (some (at_least n)) = is_integer n

-- the names of an item, in the order in which they are written
unfoldable pub item_names : Item → List Name
item_names (class_item m n supers faces body) = n ∷ (supers ++ (faces ++ body_names body))
item_names (interface_item n supers) = n ∷ supers
item_names (enum_item n constants) = n ∷ constants
item_names (association_item f l a r) = l.type ∷ (optional l.role ++ (optional r.role ++ (r.type ∷ [])))

unfoldable pub item_integers : Item → Bool
item_integers (class_item m n supers faces body) = true
item_integers (interface_item n supers) = true
item_integers (enum_item n constants) = true
item_integers (association_item f l a r) = both (end_integers l.cardinality) (end_integers r.cardinality)

unfoldable pub items_named : List Item → Bool
items_named [] = true
items_named (i ∷ is) = both (both (are_names (item_names i)) (item_integers i)) (items_named is)

unfoldable pub named : Tree → Bool
named t = both (is_name t.name) (items_named t.items)

-- ---- "it belongs to this grammar": the text's words and marks are those of the tree
pub record Belongs (s : List ℕ) (t : Tree) : Type 0 where
  pub written : tokens s ≡ tokens_of t
  pub is-named : named t ≡ true
