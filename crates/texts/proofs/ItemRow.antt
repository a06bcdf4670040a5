-- The row of an item: its tokens, each with the state that it leads to. What comes behind is the last argument.
-- Assumes nothing.
use Prim.Native.Nat.{ℕ}
use mathlib.Core.List.{List, [], ◌∷◌}
use mathlib.Core.Option.{Option, none, some}
use Rattle.files.specs.Name.{Name}
use Rattle.texts.specs.Grammar.{Cardinality, Item, Modifier, TextAttribute, abstract, arrow_token, association_item, at_least, between, class_item, close_brace, comma, enum_item, exactly, form_token, interface_item, many, open_brace, plain, quoted, semicolon, singleton, star}
use Rattle.texts.specs.Table.{Symbol, symbol}
use Rattle.texts.specs.Token.{Token, mark, singleton_word, word}

abbrev pub further_row : ℕ → ℕ → List Name → List Symbol → List Symbol
further_row a b [] rest = rest
further_row a b (w ∷ ws) rest = symbol a comma ∷ symbol b (word w) ∷ further_row a b ws rest

abbrev pub clause_row : ℕ → ℕ → Token → List Name → List Symbol → List Symbol
clause_row a b t [] rest = rest
clause_row a b t (w ∷ ws) rest = symbol a t ∷ symbol b (word w) ∷ further_row a b ws rest

abbrev pub modifier_row : Modifier → List Symbol → List Symbol
modifier_row plain rest = rest
modifier_row abstract rest = symbol 6 (quoted 8) ∷ rest
modifier_row singleton rest = symbol 4 (mark 4) ∷ symbol 5 (word singleton_word) ∷ symbol 6 (mark 5) ∷ rest

abbrev pub attribute_row : List TextAttribute → List Symbol → List Symbol
attribute_row [] rest = rest
attribute_row (a ∷ list) rest = symbol 14 (word a.type) ∷ symbol 15 (word a.name) ∷ symbol 13 semicolon ∷ attribute_row list rest

abbrev pub body_row : Option (List TextAttribute) → List Symbol
body_row none = symbol 3 semicolon ∷ []
body_row (some list) = symbol 13 open_brace ∷ attribute_row list (symbol 3 close_brace ∷ [])

abbrev pub constant_row : List Name → List Symbol
constant_row [] = symbol 3 semicolon ∷ []
constant_row (c ∷ cs) = symbol 22 open_brace ∷ symbol 23 (word c) ∷ further_row 22 23 cs (symbol 24 semicolon ∷ symbol 3 close_brace ∷ [])

abbrev pub cardinality_row : ℕ → ℕ → ℕ → ℕ → ℕ → Option Cardinality → List Symbol → List Symbol
cardinality_row a b c d e none rest = rest
cardinality_row a b c d e (some many) rest = symbol a (mark 13) ∷ symbol d star ∷ symbol e (mark 14) ∷ rest
cardinality_row a b c d e (some (exactly n)) rest = symbol a (mark 13) ∷ symbol b (word n) ∷ symbol e (mark 14) ∷ rest
cardinality_row a b c d e (some (between n m)) rest = symbol a (mark 13) ∷ symbol b (word n) ∷ symbol c (mark 6) ∷ symbol d (word m) ∷ symbol e (mark 14) ∷ rest
cardinality_row a b c d e (some (at_least n)) rest = symbol a (mark 13) ∷ symbol b (word n) ∷ symbol c (mark 6) ∷ symbol d star ∷ symbol e (mark 14) ∷ rest

abbrev pub role_row : ℕ → ℕ → ℕ → Option Name → List Symbol → List Symbol
role_row a b c none rest = rest
role_row a b c (some w) rest = symbol a (mark 11) ∷ symbol b (word w) ∷ symbol c (mark 12) ∷ rest

abbrev pub row_of : Item → List Symbol
row_of (class_item m n supers faces body) =
    modifier_row m (symbol 7 (quoted 1) ∷ symbol 8 (word n) ∷ clause_row 9 10 (quoted 2) supers (clause_row 11 12 (quoted 3) faces (body_row body)))
row_of (interface_item n supers) = symbol 16 (quoted 4) ∷ symbol 17 (word n) ∷ clause_row 18 19 (quoted 2) supers (symbol 3 semicolon ∷ [])
row_of (enum_item n constants) = symbol 20 (quoted 5) ∷ symbol 21 (word n) ∷ constant_row constants
row_of (association_item f l a r) =
    symbol 25 (form_token f)
    ∷ cardinality_row 26 27 28 29 30 l.cardinality (symbol 31 (word l.type)
    ∷ role_row 32 33 34 l.role (symbol 35 (arrow_token a)
    ∷ role_row 36 37 38 r.role (symbol 39 (word r.type)
    ∷ cardinality_row 40 41 42 43 44 r.cardinality (symbol 3 semicolon ∷ []))))
