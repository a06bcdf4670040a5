-- From each state of the table, what may follow by the grammar (`follows`, in the order of the table); and each edge leads from
-- what may follow behind its token to what may follow before it.
-- Assumes nothing.
use Prim.Native.Nat.{ℕ}
use mathlib.Core.List.{List, [], ◌∷◌}
use mathlib.Core.Logic.{inl, inr}
use mathlib.Core.Path.{◌∙◌, ◌≡◌, ap, subst, sym}
use lib.ListN.{get_or}
use Rattle.texts.specs.Grammar.{abstract, arrow_token, association, both_ways, close_brace, comma, composition, form_token, left, modifier_tokens, no-head, open_brace, plain, quoted, right, semicolon, singleton, star}
use Rattle.texts.specs.Table.{Edge, name, table}
use Rattle.texts.specs.Token.{Token, mark, singleton_word, word}
use Rattle.texts.proofs.ItemParts.{Attributes, Body, ClassRest, Constants, EnumRest, InterfaceRest, Items, LeftEnd, RightEnd, association-items, class-items, enum-items, interface-items, no-attributes, no_body, no-constants, no_items, some-attributes, some-body, some-constants}
use Rattle.texts.proofs.Parts.{AfterBracket, AfterDots, AfterLow, Arrowed, Clause, Follow, Further, Limited, Mark, Named, Role, arrowed, marked, named-part, no-cardinality, no-clause, no-further, no-role, number-part, some-cardinality, some-clause, some-further, some-role}
use Rattle.texts.proofs.TokenClassLaws.{IsNamed, Meant, number-named, singleton-named}

-- a pair, so that a row of them is written without brackets
infixr 3 ◌and◌
◌and◌ : {A B : Type 0} → A → B → A × B
a and b = (a, b)

-- ---- what may follow at each state, in the order of the table

abbrev End : Follow
End = Mark semicolon Items

abbrev LeftType : Follow
LeftType = Named (Role (Arrowed RightEnd))

abbrev RightType : Follow
RightType = Named (Limited End)

abbrev pub follows : List Follow
follows =
    (Mark (quoted 0) (Named (Mark open_brace Items))) ∷
    (Named (Mark open_brace Items)) ∷
    (Mark open_brace Items) ∷
    Items ∷  -- 3
    (Mark (word singleton_word) (Mark (mark 5) (Mark (quoted 1) ClassRest))) ∷
    (Mark (mark 5) (Mark (quoted 1) ClassRest)) ∷
    (Mark (quoted 1) ClassRest) ∷
    ClassRest ∷  -- 7
    (Clause (quoted 2) (Clause (quoted 3) (Body Items))) ∷
    (Named (Further (Clause (quoted 3) (Body Items)))) ∷
    (Further (Clause (quoted 3) (Body Items))) ∷
    (Named (Further (Body Items))) ∷
    (Further (Body Items)) ∷
    (Attributes (Mark close_brace Items)) ∷  -- 13
    (Named (Mark semicolon (Attributes (Mark close_brace Items)))) ∷
    (Mark semicolon (Attributes (Mark close_brace Items))) ∷
    InterfaceRest ∷  -- 16
    (Clause (quoted 2) End) ∷
    (Named (Further End)) ∷
    (Further End) ∷
    EnumRest ∷  -- 20
    (Constants Items) ∷
    (Named (Further (Mark semicolon (Mark close_brace Items)))) ∷
    (Further (Mark semicolon (Mark close_brace Items))) ∷
    (Mark close_brace Items) ∷
    LeftEnd ∷  -- 25
    (AfterBracket LeftType) ∷
    (AfterLow LeftType) ∷
    (AfterDots LeftType) ∷
    (Mark (mark 14) LeftType) ∷
    LeftType ∷  -- 30
    (Role (Arrowed RightEnd)) ∷
    (Named (Mark (mark 12) (Arrowed RightEnd))) ∷
    (Mark (mark 12) (Arrowed RightEnd)) ∷
    (Arrowed RightEnd) ∷
    RightEnd ∷  -- 35
    (Named (Mark (mark 12) RightType)) ∷
    (Mark (mark 12) RightType) ∷
    RightType ∷
    (Limited End) ∷
    (AfterBracket End) ∷  -- 40
    (AfterLow End) ∷
    (AfterDots End) ∷
    (Mark (mark 14) End) ∷
    End ∷
    (λ ts. ts ≡ []) ∷  -- 45
    []

abbrev pub At : ℕ → Follow
At q = get_or follows q (λ ts. ⊥)

-- ---- edges

-- each edge out of a state leads from what follows behind it to what follows before it
abbrev pub Sound : Follow → List Edge → Type 0
Sound P [] = Unit {0}
Sound P (e ∷ es) = ((t : Token) (ts : List Token) → Meant e.class t → At e.next ts → P (t ∷ ts)) × Sound P es

abbrev pub AllSound : List Follow → List (List Edge) → Type 0
AllSound [] [] = Unit {0}
AllSound [] (es ∷ states) = ⊥
AllSound (P ∷ Ps) [] = Unit {0}
AllSound (P ∷ Ps) (es ∷ states) = Sound P es × AllSound Ps states

by_name : (n : ℕ) (P : Follow) (es : List Edge) → ((t : Token) (ts : List Token) → IsNamed t → At n ts → P (t ∷ ts)) → Sound P es → Sound P (name n es)
by_name n P es f s = (λ t ts m r. f t ts (singleton-named t m) r, (λ t ts m r. f t ts (number-named t m) r, (f, s)))

-- an edge of one token
by : (Q P : Follow) (c : Token) → ((ts : List Token) → Q ts → P (c ∷ ts)) → (t : Token) (ts : List Token) → t ≡ c → Q ts → P (t ∷ ts)
by Q P c f t ts m r = subst (λ (x : Token). P (x ∷ ts)) (sym m) (f ts r)

-- a token that is written as such
as-mark : (c : Token) (K : Follow) → (t : Token) (ts : List Token) → t ≡ c → K ts → Mark c K (t ∷ ts)
as-mark c K = by K (Mark c K) c (λ ts. marked c)

-- ---- the edges of each state, in the order of the table

abstract-items : (ts : List Token) → Mark (quoted 1) ClassRest ts → Items (quoted 8 ∷ ts)
unfolding modifier_tokens
abstract-items ts r = subst (λ (x : List Token). Items (quoted 8 ∷ x)) (sym r.written) (class-items abstract r.follows)

singleton-items : (ts : List Token) → Mark (word singleton_word) (Mark (mark 5) (Mark (quoted 1) ClassRest)) ts → Items (mark 4 ∷ ts)
unfolding modifier_tokens
singleton-items ts r =
    let s = r.follows in
    let u = s.follows in
    subst (λ (x : List Token). Items (mark 4 ∷ x))
    (sym (r.written ∙ ap {B = List Token} (λ x. word singleton_word ∷ x) (s.written ∙ ap {B = List Token} (λ x. mark 5 ∷ x) u.written)))
    (class-items singleton u.follows)

items-sound : Sound Items (get_or table 3 [])
unfolding modifier_tokens form_token
items-sound =
    by (λ ts. ts ≡ []) Items close_brace (λ ts. no_items)
    and by ClassRest Items (quoted 1) (λ ts. class-items plain)
    and by (Mark (quoted 1) ClassRest) Items (quoted 8) abstract-items
    and by (Mark (word singleton_word) (Mark (mark 5) (Mark (quoted 1) ClassRest))) Items (mark 4) singleton-items
    and by InterfaceRest Items (quoted 4) (λ ts. interface-items)
    and by EnumRest Items (quoted 5) (λ ts. enum-items)
    and by LeftEnd Items (quoted 6) (λ ts. association-items association)
    and by LeftEnd Items (quoted 7) (λ ts. association-items composition)
    and tt

-- behind a class's name, behind a superclass and behind a superinterface
class-sound : Sound (At 8) (get_or table 8 [])
class-sound =
    by (At 9) (At 8) (quoted 2) (λ ts r. some-clause (quoted 2) r)
    and by (At 11) (At 8) (quoted 3) (λ ts r. no-clause (quoted 2) (some-clause (quoted 3) r))
    and by (At 3) (At 8) semicolon (λ ts r. no-clause (quoted 2) (no-clause (quoted 3) (no_body r)))
    and by (At 13) (At 8) open_brace (λ ts r. no-clause (quoted 2) (no-clause (quoted 3) (some-body r)))
    and tt

superclass-sound : Sound (At 10) (get_or table 10 [])
superclass-sound =
    by (At 9) (At 10) comma (λ ts r. some-further r)
    and by (At 11) (At 10) (quoted 3) (λ ts r. no-further (some-clause (quoted 3) r))
    and by (At 3) (At 10) semicolon (λ ts r. no-further (no-clause (quoted 3) (no_body r)))
    and by (At 13) (At 10) open_brace (λ ts r. no-further (no-clause (quoted 3) (some-body r)))
    and tt

superinterface-sound : Sound (At 12) (get_or table 12 [])
superinterface-sound =
    by (At 11) (At 12) comma (λ ts r. some-further r)
    and by (At 3) (At 12) semicolon (λ ts r. no-further (no_body r))
    and by (At 13) (At 12) open_brace (λ ts r. no-further (some-body r))
    and tt

-- an arrow in front of the right end, where a role may come before it and where it came
arrow-sound : Sound (At 34) (get_or table 34 [])
unfolding arrow_token
arrow-sound =
    by (At 35) (At 34) (mark 1) (λ ts r. arrowed right r)
    and by (At 35) (At 34) (mark 2) (λ ts r. arrowed left r)
    and by (At 35) (At 34) (mark 0) (λ ts r. arrowed both_ways r)
    and by (At 35) (At 34) (mark 3) (λ ts r. arrowed no-head r)
    and tt

role-sound : Sound (At 31) (get_or table 31 [])
unfolding arrow_token
role-sound =
    by (At 32) (At 31) (mark 11) (λ ts r. some-role r)
    and by (At 35) (At 31) (mark 1) (λ ts r. no-role (arrowed right r))
    and by (At 35) (At 31) (mark 2) (λ ts r. no-role (arrowed left r))
    and by (At 35) (At 31) (mark 0) (λ ts r. no-role (arrowed both_ways r))
    and by (At 35) (At 31) (mark 3) (λ ts r. no-role (arrowed no-head r))
    and tt

-- a state at which a name comes, and nothing else
just-name : (n : ℕ) → Sound (Named (At n)) (name n [])
just-name n = by_name n (Named (At n)) [] (λ t ts m r. named-part {K = At n} m r) tt

pub sound : AllSound follows table
sound =
    (as-mark (quoted 0) _ and tt)
    and just-name 2
    and (as-mark open_brace _ and tt)
    and items-sound
    and (as-mark (word singleton_word) _ and tt)
    and (as-mark (mark 5) _ and tt)
    and (as-mark (quoted 1) _ and tt)
    and just-name 8
    and class-sound
    and just-name 10
    and superclass-sound
    and just-name 12
    and superinterface-sound
    and (by (At 3) (At 13) close_brace (λ ts r. no-attributes (marked close_brace r)) and by_name 14 (At 13) [] (λ t ts m r. some-attributes m r) tt)
    and just-name 15
    and (as-mark semicolon _ and tt)
    and just-name 17
    and (by (At 18) (At 17) (quoted 2) (λ ts r. some-clause (quoted 2) r) and by (At 3) (At 17) semicolon (λ ts r. no-clause (quoted 2) (marked semicolon r)) and tt)
    and just-name 19
    and (by (At 18) (At 19) comma (λ ts r. some-further r) and by (At 3) (At 19) semicolon (λ ts r. no-further (marked semicolon r)) and tt)
    and just-name 21
    and (by (At 3) (At 21) semicolon (λ ts r. no-constants r) and by (At 22) (At 21) open_brace (λ ts r. some-constants r) and tt)
    and just-name 23
    and (by (At 22) (At 23) comma (λ ts r. some-further r) and by (At 24) (At 23) semicolon (λ ts r. no-further (marked semicolon r)) and tt)
    and (as-mark close_brace _ and tt)
    and (by (At 26) (At 25) (mark 13) (λ ts r. some-cardinality r) and by_name 31 (At 25) [] (λ t ts m r. no-cardinality (named-part m r)) tt)
    and (by (At 29) (At 26) star (λ ts r. inl (marked star r)) and (λ t ts m r. inr (number-part m r)) and tt)
    and (by (At 30) (At 27) (mark 14) (λ ts r. inl (marked (mark 14) r)) and by (At 28) (At 27) (mark 6) (λ ts r. inr (marked (mark 6) r)) and tt)
    and ((λ t ts m r. inl (number-part m r)) and by (At 29) (At 28) star (λ ts r. inr (marked star r)) and tt)
    and (as-mark (mark 14) _ and tt)
    and just-name 31
    and role-sound
    and just-name 33
    and (as-mark (mark 12) _ and tt)
    and arrow-sound
    and (by (At 36) (At 35) (mark 11) (λ ts r. some-role r) and by_name 39 (At 35) [] (λ t ts m r. no-role (named-part m r)) tt)
    and just-name 37
    and (as-mark (mark 12) _ and tt)
    and just-name 39
    and (by (At 40) (At 39) (mark 13) (λ ts r. some-cardinality r) and by (At 3) (At 39) semicolon (λ ts r. no-cardinality (marked semicolon r)) and tt)
    and (by (At 43) (At 40) star (λ ts r. inl (marked star r)) and (λ t ts m r. inr (number-part m r)) and tt)
    and (by (At 44) (At 41) (mark 14) (λ ts r. inl (marked (mark 14) r)) and by (At 42) (At 41) (mark 6) (λ ts r. inr (marked (mark 6) r)) and tt)
    and ((λ t ts m r. inl (number-part m r)) and by (At 43) (At 42) star (λ ts r. inr (marked star r)) and tt)
    and (as-mark (mark 14) _ and tt)
    and (as-mark semicolon _ and tt)
    and tt
    and tt
