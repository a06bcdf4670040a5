-- The tokens of some states in the row of an item.
-- A function ending in `Picks` goes through a list as the row does, its twin ending in `Pick` says what comes out where the states
-- of what stands between are not picked.
-- Assumes nothing.
use Prim.Native.Nat.{ℕ}
use mathlib.Core.Bool.{Bool, cond, false, true}
use mathlib.Core.List.{List, [], ◌++◌, ◌∷◌, map}
use mathlib.Core.Option.{Option, none, some}
use mathlib.Core.Path.{◌∙◌, ◌≡◌, ap, refl}
use Rattle.files.specs.Name.{Name}
use Rattle.texts.specs.Declaration.{attributes_of}
use Rattle.texts.specs.Grammar.{Cardinality, Item, Modifier, TextAttribute, abstract, arrow_token, association_item, at_least, attribute_names, between, body_names, class_item, close_brace, comma, enum_item, exactly, form_token, interface_item, many, open_brace, plain, quoted, semicolon, singleton, star}
use Rattle.texts.specs.Table.{Symbol, symbol}
use Rattle.texts.specs.Token.{Token, mark, singleton_word, word}
use Rattle.texts.proofs.ItemRow.{attribute_row, body_row, cardinality_row, clause_row, constant_row, further_row, modifier_row, role_row, row_of}
use Rattle.texts.proofs.RowLaws.{picks}

abbrev pub also : Bool → List Token → List Token → List Token
also true ts rest = ts ++ rest
also false ts rest = rest

abbrev further_picks : Bool → Bool → List Name → List Token → List Token
further_picks a b [] rest = rest
further_picks a b (w ∷ ws) rest = also a (comma ∷ []) (also b (word w ∷ []) (further_picks a b ws rest))

abbrev clause_picks : Bool → Bool → Token → List Name → List Token → List Token
clause_picks a b t [] rest = rest
clause_picks a b t (w ∷ ws) rest = also a (t ∷ []) (also b (word w ∷ []) (further_picks a b ws rest))

abbrev pub clause_pick : Bool → Bool → Token → List Name → List Token → List Token
clause_pick true b t ws rest = clause_picks true b t ws rest
clause_pick false true t ws rest = map word ws ++ rest
clause_pick false false t ws rest = rest

abbrev attribute_picks : Bool → Bool → Bool → List TextAttribute → List Token → List Token
attribute_picks a b c [] rest = rest
attribute_picks a b c (x ∷ list) rest = also b (word x.type ∷ []) (also c (word x.name ∷ []) (also a (semicolon ∷ []) (attribute_picks a b c list rest)))

abbrev opening : Option (List TextAttribute) → List Token
opening none = []
opening (some list) = open_brace ∷ []

abbrev pub closing : Option (List TextAttribute) → List Token
closing none = semicolon ∷ []
closing (some list) = close_brace ∷ []

abbrev pub body_pick : Bool → Bool → Bool → Option (List TextAttribute) → List Token → List Token
body_pick true b c body rest = opening body ++ attribute_picks true b c (attributes_of body) rest
body_pick false true true body rest = map word (body_names body) ++ rest
body_pick false true false body rest = map (λ x. word x.type) (attributes_of body) ++ rest
body_pick false false true body rest = map (λ x. word x.name) (attributes_of body) ++ rest
body_pick false false false body rest = rest

abbrev separator : List Name → List Token
separator [] = []
separator (c ∷ cs) = semicolon ∷ []

abbrev pub constants_end : List Name → List Token
constants_end [] = semicolon ∷ []
constants_end (c ∷ cs) = close_brace ∷ []

abbrev pub bracket : Option Cardinality → Token → List Token
bracket none t = []
bracket (some c) t = t ∷ []

abbrev pub low_digits : Option Cardinality → List Token
low_digits none = []
low_digits (some many) = []
low_digits (some (exactly n)) = word n ∷ []
low_digits (some (between n m)) = word n ∷ []
low_digits (some (at_least n)) = word n ∷ []

abbrev pub dots : Option Cardinality → List Token
dots none = []
dots (some many) = []
dots (some (exactly n)) = []
dots (some (between n m)) = mark 6 ∷ []
dots (some (at_least n)) = mark 6 ∷ []

abbrev pub high_part : Option Cardinality → List Token
high_part none = []
high_part (some many) = star ∷ []
high_part (some (exactly n)) = []
high_part (some (between n m)) = word m ∷ []
high_part (some (at_least n)) = star ∷ []

abbrev pub cardinality_pick : Bool → Bool → Bool → Bool → Bool → Option Cardinality → List Token → List Token
cardinality_pick a b c d e k rest =
    also a (bracket k (mark 13)) (also b (low_digits k) (also c (dots k) (also d (high_part k) (also e (bracket k (mark 14)) rest))))

abbrev parenthesis : Option Name → Token → List Token
parenthesis none t = []
parenthesis (some w) t = t ∷ []

abbrev pub role_word : Option Name → List Token
role_word none = []
role_word (some w) = word w ∷ []

abbrev pub role_pick : Bool → Bool → Bool → Option Name → List Token → List Token
role_pick a b c k rest = also a (parenthesis k (mark 11)) (also b (role_word k) (also c (parenthesis k (mark 12)) rest))

abbrev stereotype : Modifier → Token → List Token
stereotype plain t = []
stereotype abstract t = []
stereotype singleton t = t ∷ []

abbrev modifier_end : Modifier → List Token
modifier_end plain = []
modifier_end abstract = quoted 8 ∷ []
modifier_end singleton = mark 5 ∷ []

abbrev pub modifier_pick : Bool → Bool → Bool → Modifier → List Token → List Token
modifier_pick a b c m rest = also a (stereotype m (mark 4)) (also b (stereotype m (word singleton_word)) (also c (modifier_end m) rest))

abbrev pub item_pick : Item → (ℕ → Bool) → List Token
item_pick (class_item m n supers faces body) p =
    modifier_pick (p 4) (p 5) (p 6) m (also (p 7) (quoted 1 ∷ []) (also (p 8) (word n ∷ [])
    (clause_pick (p 9) (p 10) (quoted 2) supers (clause_pick (p 11) (p 12) (quoted 3) faces
    (body_pick (p 13) (p 14) (p 15) body (also (p 3) (closing body) []))))))
item_pick (interface_item n supers) p =
    also (p 16) (quoted 4 ∷ []) (also (p 17) (word n ∷ []) (clause_pick (p 18) (p 19) (quoted 2) supers (also (p 3) (semicolon ∷ []) [])))
item_pick (enum_item n constants) p =
    also (p 20) (quoted 5 ∷ []) (also (p 21) (word n ∷ [])
    (clause_pick (p 22) (p 23) open_brace constants (also (p 24) (separator constants) (also (p 3) (constants_end constants) []))))
item_pick (association_item f l a r) p =
    also (p 25) (form_token f ∷ []) (cardinality_pick (p 26) (p 27) (p 28) (p 29) (p 30) l.cardinality (also (p 31) (word l.type ∷ [])
    (role_pick (p 32) (p 33) (p 34) l.role (also (p 35) (arrow_token a ∷ [])
    (role_pick (p 36) (p 37) (p 38) r.role (also (p 39) (word r.type ∷ [])
    (cardinality_pick (p 40) (p 41) (p 42) (p 43) (p 44) r.cardinality (also (p 3) (semicolon ∷ []) []))))))))

-- ---- and these are they

cond-also : (b : Bool) (t : Token) (ts : List Token) → cond b (t ∷ ts) ts ≡ also b (t ∷ []) ts
cond-also true t ts = refl
cond-also false t ts = refl

further-words : (ws : List Name) (rest : List Token) → further_picks false true ws rest ≡ map word ws ++ rest
further-words [] rest = refl
further-words (w ∷ ws) rest = ap {B = List Token} (λ ts. word w ∷ ts) (further-words ws rest)

further-none : (ws : List Name) (rest : List Token) → further_picks false false ws rest ≡ rest
further-none [] rest = refl
further-none (w ∷ ws) rest = further-none ws rest

clause-is : (a b : Bool) (t : Token) (ws : List Name) (rest : List Token) → clause_picks a b t ws rest ≡ clause_pick a b t ws rest
clause-is true b t ws rest = refl
clause-is false true t [] rest = refl
clause-is false true t (w ∷ ws) rest = ap {B = List Token} (λ ts. word w ∷ ts) (further-words ws rest)
clause-is false false t [] rest = refl
clause-is false false t (w ∷ ws) rest = further-none ws rest

attributes-are : (b c : Bool) (list : List TextAttribute) (rest : List Token) → attribute_picks false b c list rest ≡ body_pick false b c (some list) rest
unfolding attribute_names
attributes-are true true [] rest = refl
attributes-are true false [] rest = refl
attributes-are false true [] rest = refl
attributes-are false false [] rest = refl
attributes-are true true (x ∷ list) rest = ap {B = List Token} (λ ts. word x.type ∷ word x.name ∷ ts) (attributes-are true true list rest)
attributes-are true false (x ∷ list) rest = ap {B = List Token} (λ ts. word x.type ∷ ts) (attributes-are true false list rest)
attributes-are false true (x ∷ list) rest = ap {B = List Token} (λ ts. word x.name ∷ ts) (attributes-are false true list rest)
attributes-are false false (x ∷ list) rest = attributes-are false false list rest

nothing-also : (b : Bool) (ts : List Token) → ts ≡ also b [] ts
nothing-also true ts = refl
nothing-also false ts = refl

no_body : (a b c : Bool) (ts : List Token) → ts ≡ body_pick a b c none ts
no_body true b c ts = refl
no_body false true true ts = refl
no_body false true false ts = refl
no_body false false true ts = refl
no_body false false false ts = refl

body_is : (a b c : Bool) (list : List TextAttribute) (ts : List Token)
    → also a (open_brace ∷ []) (attribute_picks a b c list ts) ≡ body_pick a b c (some list) ts
body_is true b c list ts = refl
body_is false b c list ts = attributes-are b c list ts

module _ (p : ℕ → Bool) where
  front : (n : ℕ) (t : Token) (row : List Symbol) (ts : List Token) → picks p row ≡ ts → picks p (symbol n t ∷ row) ≡ also (p n) (t ∷ []) ts
  unfolding picks
  front n t row ts e = cond-also (p n) t (picks p row) ∙ ap (also (p n) (t ∷ [])) e

  final : (t : Token) → picks p (symbol 3 t ∷ []) ≡ also (p 3) (t ∷ []) []
  unfolding picks
  final t = cond-also (p 3) t []

  further-picked : (a b : ℕ) (ws : List Name) (rest : List Symbol) (ts : List Token) → picks p rest ≡ ts
      → picks p (further_row a b ws rest) ≡ further_picks (p a) (p b) ws ts
  further-picked a b [] rest ts e = e
  further-picked a b (w ∷ ws) rest ts e = front a comma _ _ (front b (word w) _ _ (further-picked a b ws rest ts e))

  clause-picked : (a b : ℕ) (t : Token) (ws : List Name) (rest : List Symbol) (ts : List Token) → picks p rest ≡ ts
      → picks p (clause_row a b t ws rest) ≡ clause_pick (p a) (p b) t ws ts
  clause-picked a b t [] rest ts e = e ∙ clause-is (p a) (p b) t [] ts
  clause-picked a b t (w ∷ ws) rest ts e =
      front a t _ _ (front b (word w) _ _ (further-picked a b ws rest ts e)) ∙ clause-is (p a) (p b) t (w ∷ ws) ts

  modifier-picked : (m : Modifier) (rest : List Symbol) (ts : List Token) → picks p rest ≡ ts → picks p (modifier_row m rest) ≡ modifier_pick (p 4) (p 5) (p 6) m ts
  modifier-picked plain rest ts e = e ∙ nothing-also (p 6) ts ∙ nothing-also (p 5) _ ∙ nothing-also (p 4) _
  modifier-picked abstract rest ts e = front 6 (quoted 8) _ _ e ∙ nothing-also (p 5) _ ∙ nothing-also (p 4) _
  modifier-picked singleton rest ts e = front 4 (mark 4) _ _ (front 5 (word singleton_word) _ _ (front 6 (mark 5) _ _ e))

  attributes-picked : (list : List TextAttribute) (rest : List Symbol) (ts : List Token) → picks p rest ≡ ts
      → picks p (attribute_row list rest) ≡ attribute_picks (p 13) (p 14) (p 15) list ts
  attributes-picked [] rest ts e = e
  attributes-picked (x ∷ list) rest ts e =
      front 14 (word x.type) _ _ (front 15 (word x.name) _ _ (front 13 semicolon _ _ (attributes-picked list rest ts e)))

  body-picked : (body : Option (List TextAttribute)) → picks p (body_row body) ≡ body_pick (p 13) (p 14) (p 15) body (also (p 3) (closing body) [])
  body-picked none = final semicolon ∙ no_body (p 13) (p 14) (p 15) _
  body-picked (some list) = front 13 open_brace _ _ (attributes-picked list (symbol 3 close_brace ∷ []) _ (final close_brace)) ∙ body_is (p 13) (p 14) (p 15) list _

  constants-picked : (cs : List Name) → picks p (constant_row cs) ≡ clause_pick (p 22) (p 23) open_brace cs (also (p 24) (separator cs) (also (p 3) (constants_end cs) []))
  constants-picked [] = final semicolon ∙ nothing-also (p 24) _ ∙ clause-is (p 22) (p 23) open_brace [] _
  constants-picked (c ∷ cs) =
      clause-picked 22 23 open_brace (c ∷ cs) (symbol 24 semicolon ∷ symbol 3 close_brace ∷ []) _ (front 24 semicolon _ _ (final close_brace))

  cardinality-picked : (a b c d e : ℕ) (k : Option Cardinality) (rest : List Symbol) (ts : List Token) → picks p rest ≡ ts
      → picks p (cardinality_row a b c d e k rest) ≡ cardinality_pick (p a) (p b) (p c) (p d) (p e) k ts
  cardinality-picked a b c d e none rest ts h =
      h ∙ nothing-also (p e) ts ∙ nothing-also (p d) _ ∙ nothing-also (p c) _ ∙ nothing-also (p b) _ ∙ nothing-also (p a) _
  cardinality-picked a b c d e (some many) rest ts h =
      front a (mark 13) _ _ (front d star _ _ (front e (mark 14) _ _ h) ∙ nothing-also (p c) _ ∙ nothing-also (p b) _)
  cardinality-picked a b c d e (some (exactly n)) rest ts h =
      front a (mark 13) _ _ (front b (word n) _ _ (front e (mark 14) _ _ h ∙ nothing-also (p d) _ ∙ nothing-also (p c) _))
  cardinality-picked a b c d e (some (between n m)) rest ts h =
      front a (mark 13) _ _ (front b (word n) _ _ (front c (mark 6) _ _ (front d (word m) _ _ (front e (mark 14) _ _ h))))
  cardinality-picked a b c d e (some (at_least n)) rest ts h =
      front a (mark 13) _ _ (front b (word n) _ _ (front c (mark 6) _ _ (front d star _ _ (front e (mark 14) _ _ h))))

  role-picked : (a b c : ℕ) (k : Option Name) (rest : List Symbol) (ts : List Token) → picks p rest ≡ ts
      → picks p (role_row a b c k rest) ≡ role_pick (p a) (p b) (p c) k ts
  role-picked a b c none rest ts h = h ∙ nothing-also (p c) ts ∙ nothing-also (p b) _ ∙ nothing-also (p a) _
  role-picked a b c (some w) rest ts h = front a (mark 11) _ _ (front b (word w) _ _ (front c (mark 12) _ _ h))

  pub item-picked : (i : Item) → picks p (row_of i) ≡ item_pick i p
  item-picked (class_item m n supers faces body) =
      modifier-picked m _ _ (front 7 (quoted 1) _ _ (front 8 (word n) _ _
      (clause-picked 9 10 (quoted 2) supers _ _ (clause-picked 11 12 (quoted 3) faces _ _ (body-picked body)))))
  item-picked (interface_item n supers) =
      front 16 (quoted 4) _ _ (front 17 (word n) _ _ (clause-picked 18 19 (quoted 2) supers _ _ (final semicolon)))
  item-picked (enum_item n constants) = front 20 (quoted 5) _ _ (front 21 (word n) _ _ (constants-picked constants))
  item-picked (association_item f l a r) =
      front 25 (form_token f) _ _ (cardinality-picked 26 27 28 29 30 l.cardinality _ _ (front 31 (word l.type) _ _
      (role-picked 32 33 34 l.role _ _ (front 35 (arrow_token a) _ _
      (role-picked 36 37 38 r.role _ _ (front 39 (word r.type) _ _
      (cardinality-picked 40 41 42 43 44 r.cardinality _ _ (final semicolon))))))))
