-- The tokens of an item lead from the state between declarations by the item's row to the next such state.
-- Assumes nothing.
use Prim.Native.Nat.{ℕ}
use native.Mathlib.Omega.{arith}
use mathlib.Core.Bool.{false, true}
use mathlib.Core.List.{List, [], ◌++◌, ◌∷◌}
use mathlib.Core.Option.{Option, none, some}
use mathlib.Core.Path.{◌∙◌, ◌≡◌, ap, refl}
use lib.Dec.{eqb}
use Rattle.files.specs.Name.{Name}
use Rattle.texts.specs.Grammar.{Arrow, Cardinality, Form, Item, Modifier, TextAttribute, TextEnd, abstract, are_names, arrow_token, association, association_item, at_least, attribute_names, attribute_tokens, between, body_names, body_tokens, both_ways, cardinality_tokens, class_item, clause, close_brace, composition, constant_tokens, end_integers, enum_item, exactly, form_token, further, interface_item, item_integers, item_names, item_tokens, left, many, modifier_tokens, no-head, optional, plain, quoted, right, role_tokens, semicolon, singleton}
use Rattle.texts.specs.Table.{Symbol, lookup, next, symbol}
use Rattle.texts.specs.Token.{Token, class_of, is_integer, is_name, word}
use Rattle.laws.proofs.ConnectiveLaws.{both_left, both_of, both_right}
use Rattle.texts.proofs.ItemRow.{attribute_row, body_row, cardinality_row, clause_row, constant_row, further_row, modifier_row, role_row, row_of}
use Rattle.texts.proofs.RowLaws.{Whole, last, step}
use Rattle.texts.proofs.TokenClassLaws.{integer-class, name-class, quoted-class, singleton-class}

-- ---- edges

-- the class of each name leads to n
pub name-leads : (q n : ℕ) → next q 25 ≡ n → next q 26 ≡ n → next q 27 ≡ n → (w : Name) → is_name w ≡ true → next q (class_of (word w)) ≡ n
unfolding class_of
name-leads q n a b c w h = name-class (λ c. next q c ≡ n) a b c w h

integer-leads : (q n : ℕ) → next q 26 ≡ n → (w : Name) → is_integer w ≡ true → next q (class_of (word w)) ≡ n
unfolding class_of
integer-leads q n a w h = ap (next q) (integer-class w h) ∙ a

-- ---- lists of names

module _ (a b : ℕ) (back : next b 10 ≡ a) (a-inner : eqb a 3 ≡ false) (b-inner : eqb b 3 ≡ false)
    (leads : (w : Name) → is_name w ≡ true → next a (class_of (word w)) ≡ b) where
  further-whole : (ws : List Name) → are_names ws ≡ true → {rest : List Token} {row : List Symbol} → Whole b rest row
      → Whole b (further ws ++ rest) (further_row a b ws row)
  unfolding further are_names class_of
  further-whole [] h r = r
  further-whole (w ∷ ws) h r =
      step back a-inner (step (leads w (both_left _ _ h)) b-inner (further-whole ws (both_right (is_name w) (are_names ws) h) r))

  clause-whole : (q : ℕ) (t : Token) → next q (class_of t) ≡ a → (ws : List Name) → are_names ws ≡ true → {rest : List Token} {row : List Symbol}
      → Whole q rest row → Whole b rest row → Whole q (clause t ws ++ rest) (clause_row a b t ws row)
  unfolding clause are_names
  clause-whole q t e [] h r s = r
  clause-whole q t e (w ∷ ws) h r s =
      step e a-inner (step (leads w (both_left _ _ h)) b-inner (further-whole ws (both_right (is_name w) (are_names ws) h) s))

pub names-left : (xs ys : List Name) → are_names (xs ++ ys) ≡ true → are_names xs ≡ true
unfolding are_names
names-left [] ys h = refl
names-left (x ∷ xs) ys h = both_of _ _ (both_left _ _ h) (names-left xs ys (both_right (is_name x) (are_names (xs ++ ys)) h))

pub names-right : (xs ys : List Name) → are_names (xs ++ ys) ≡ true → are_names ys ≡ true
unfolding are_names
names-right [] ys h = h
names-right (x ∷ xs) ys h = names-right xs ys (both_right (is_name x) (are_names (xs ++ ys)) h)

-- ---- the parts of an item

attributes-whole : (list : List TextAttribute) → are_names (attribute_names list) ≡ true
    → Whole 13 (attribute_tokens list ++ (close_brace ∷ [])) (attribute_row list (symbol 3 close_brace ∷ []))
unfolding attribute_tokens attribute_names are_names class_of next lookup
attributes-whole [] h = last refl
attributes-whole (x ∷ list) h =
    let t = both_right (is_name x.type) _ h in
    step (name-leads 13 14 refl refl refl x.type (both_left _ _ h)) refl
    (step (name-leads 14 15 refl refl refl x.name (both_left _ _ t)) refl
    (step refl refl (attributes-whole list (both_right (is_name x.name) _ t))))

body-whole : (q : ℕ) → next q 9 ≡ 3 → next q 7 ≡ 13 → (body : Option (List TextAttribute)) → are_names (body_names body) ≡ true
    → Whole q (body_tokens body) (body_row body)
unfolding body_tokens class_of
body-whole q e f none h = last e
body-whole q e f (some list) h = step f refl (attributes-whole list h)

supers-whole : (n : Name) (supers faces : List Name) (body : Option (List TextAttribute)) → is_name n ≡ true → are_names supers ≡ true → are_names faces ≡ true → are_names (body_names body) ≡ true
    → Whole 7 (word n ∷ (clause (quoted 2) supers ++ (clause (quoted 3) faces ++ body_tokens body)))
    (symbol 8 (word n) ∷ clause_row 9 10 (quoted 2) supers (clause_row 11 12 (quoted 3) faces (body_row body)))
unfolding next lookup
supers-whole n supers faces body h i j k =
    step (name-leads 7 8 refl refl refl n h) refl
    (clause-whole 9 10 refl refl refl (name-leads 9 10 refl refl refl) 8 (quoted 2) (ap (next 8) (quoted-class 2 (omega arith))) supers i
    (faces-from 8 refl refl refl) (faces-from 10 refl refl refl))
  where
    faces-from : (q : ℕ) → next q 19 ≡ 11 → next q 9 ≡ 3 → next q 7 ≡ 13
        → Whole q (clause (quoted 3) faces ++ body_tokens body) (clause_row 11 12 (quoted 3) faces (body_row body))
    faces-from q e f g =
        clause-whole 11 12 refl refl refl (name-leads 11 12 refl refl refl) q (quoted 3) (ap (next q) (quoted-class 3 (omega arith)) ∙ e) faces j
        (body-whole q f g body k) (body-whole 12 refl refl body k)

class-whole : (m : Modifier) {ts : List Token} {row : List Symbol} → Whole 7 ts row → Whole 3 (modifier_tokens m ++ (quoted 1 ∷ ts)) (modifier_row m (symbol 7 (quoted 1) ∷ row))
unfolding modifier_tokens class_of next lookup
class-whole plain w = step (ap (next 3) (quoted-class 1 (omega arith))) refl w
class-whole abstract w = step (ap (next 3) (quoted-class 8 (omega arith))) refl (step (ap (next 6) (quoted-class 1 (omega arith))) refl w)
class-whole singleton w =
    step refl refl (step (ap (next 4) singleton-class) refl (step refl refl (step (ap (next 6) (quoted-class 1 (omega arith))) refl w)))

constants-whole : (cs : List Name) → are_names cs ≡ true → Whole 21 (constant_tokens cs) (constant_row cs)
unfolding constant_tokens are_names class_of next lookup
constants-whole [] h = last refl
constants-whole (c ∷ cs) h =
    step refl refl (step (name-leads 22 23 refl refl refl c (both_left _ _ h)) refl
    (further-whole 22 23 refl refl refl (name-leads 22 23 refl refl refl) cs (both_right (is_name c) (are_names cs) h) (step refl refl (last refl))))

-- a cardinality between the states q and e
record Bracketed (q a b c d e : ℕ) : Type 0 where
  starts : next q 13 ≡ a
  many : next a 15 ≡ d
  low : next a 26 ≡ b
  low-only : next b 14 ≡ e
  dotted : next b 6 ≡ c
  up : next c 26 ≡ d
  no-up : next c 15 ≡ d
  ends : next d 14 ≡ e
  inner-a : eqb a 3 ≡ false
  inner-b : eqb b 3 ≡ false
  inner-c : eqb c 3 ≡ false
  inner-d : eqb d 3 ≡ false
  inner-e : eqb e 3 ≡ false

cardinality-whole : {q a b c d e : ℕ} → Bracketed q a b c d e → (k : Option Cardinality) → end_integers k ≡ true → {ts : List Token} {row : List Symbol}
    → Whole q ts row → Whole e ts row → Whole q (cardinality_tokens k ++ ts) (cardinality_row a b c d e k row)
unfolding cardinality_tokens class_of
cardinality-whole f none h r s = r
cardinality-whole f (some many) h r s = step f.starts f.inner-a (step f.many f.inner-d (step f.ends f.inner-e s))
cardinality-whole f (some (exactly n)) h r s =
    step f.starts f.inner-a (step (integer-leads _ _ f.low n h) f.inner-b (step f.low-only f.inner-e s))
cardinality-whole f (some (between n m)) h r s =
    step f.starts f.inner-a (step (integer-leads _ _ f.low n (both_left _ _ h)) f.inner-b
    (step f.dotted f.inner-c (step (integer-leads _ _ f.up m (both_right (is_integer n) (is_integer m) h)) f.inner-d (step f.ends f.inner-e s))))
cardinality-whole f (some (at_least n)) h r s =
    step f.starts f.inner-a (step (integer-leads _ _ f.low n h) f.inner-b
    (step f.dotted f.inner-c (step f.no-up f.inner-d (step f.ends f.inner-e s))))

role-whole : {q a b c : ℕ} → next q 11 ≡ a → ((w : Name) → is_name w ≡ true → next a (class_of (word w)) ≡ b) → next b 12 ≡ c → eqb a 3 ≡ false → eqb b 3 ≡ false → eqb c 3 ≡ false
    → (k : Option Name) → are_names (optional k) ≡ true → {ts : List Token} {row : List Symbol}
    → Whole q ts row → Whole c ts row → Whole q (role_tokens k ++ ts) (role_row a b c k row)
unfolding role_tokens class_of are_names
role-whole e f g x y z none h r s = r
role-whole e f g x y z (some w) h r s = step e x (step (f w (both_left _ _ h)) y (step g z s))

form-leads : (f : Form) → next 3 (class_of (form_token f)) ≡ 25
unfolding form_token next lookup
form-leads association = ap (next 3) (quoted-class 6 (omega arith))
form-leads composition = ap (next 3) (quoted-class 7 (omega arith))

arrow-leads : (q : ℕ) → next q 0 ≡ 35 → next q 1 ≡ 35 → next q 2 ≡ 35 → next q 3 ≡ 35 → (a : Arrow) → next q (class_of (arrow_token a)) ≡ 35
unfolding arrow_token class_of
arrow-leads q e f g h both_ways = e
arrow-leads q e f g h right = f
arrow-leads q e f g h left = g
arrow-leads q e f g h no-head = h

left-cardinality : Bracketed 25 26 27 28 29 30
unfolding next lookup
left-cardinality =
    record { starts = refl; many = refl; low = refl; low-only = refl; dotted = refl; up = refl; no-up = refl; ends = refl; inner-a = refl; inner-b = refl; inner-c = refl; inner-d = refl; inner-e = refl }

right-cardinality : Bracketed 39 40 41 42 43 44
unfolding next lookup
right-cardinality =
    record { starts = refl; many = refl; low = refl; low-only = refl; dotted = refl; up = refl; no-up = refl; ends = refl; inner-a = refl; inner-b = refl; inner-c = refl; inner-d = refl; inner-e = refl }

right-end-whole : (r : TextEnd) → end_integers r.cardinality ≡ true → are_names (optional r.role) ≡ true → is_name r.type ≡ true
    → Whole 35 (role_tokens r.role ++ (word r.type ∷ (cardinality_tokens r.cardinality ++ (semicolon ∷ []))))
    (role_row 36 37 38 r.role (symbol 39 (word r.type) ∷ cardinality_row 40 41 42 43 44 r.cardinality (symbol 3 semicolon ∷ [])))
unfolding next lookup class_of
right-end-whole r h i j = role-whole refl (name-leads 36 37 refl refl refl) refl refl refl refl r.role i (from 35 refl refl refl) (from 38 refl refl refl)
  where
    from : (q : ℕ) → next q 25 ≡ 39 → next q 26 ≡ 39 → next q 27 ≡ 39
        → Whole q (word r.type ∷ (cardinality_tokens r.cardinality ++ (semicolon ∷ [])))
        (symbol 39 (word r.type) ∷ cardinality_row 40 41 42 43 44 r.cardinality (symbol 3 semicolon ∷ []))
    from q e f g = step (name-leads q 39 e f g r.type j) refl (cardinality-whole right-cardinality r.cardinality h (last refl) (last refl))

left-end-whole : (l : TextEnd) (a : Arrow) → end_integers l.cardinality ≡ true → is_name l.type ≡ true → are_names (optional l.role) ≡ true
    → {ts : List Token} {row : List Symbol} → Whole 35 ts row
    → Whole 25 (cardinality_tokens l.cardinality ++ (word l.type ∷ (role_tokens l.role ++ (arrow_token a ∷ ts))))
    (cardinality_row 26 27 28 29 30 l.cardinality (symbol 31 (word l.type) ∷ role_row 32 33 34 l.role (symbol 35 (arrow_token a) ∷ row)))
unfolding next lookup class_of
left-end-whole l a h i j {ts} {row} r = cardinality-whole left-cardinality l.cardinality h (from 25 refl refl refl) (from 30 refl refl refl)
  where
    arrow : (q : ℕ) → next q 0 ≡ 35 → next q 1 ≡ 35 → next q 2 ≡ 35 → next q 3 ≡ 35 → Whole q (arrow_token a ∷ ts) (symbol 35 (arrow_token a) ∷ row)
    arrow q e f g k = step (arrow-leads q e f g k a) refl r

    from : (q : ℕ) → next q 25 ≡ 31 → next q 26 ≡ 31 → next q 27 ≡ 31
        → Whole q (word l.type ∷ (role_tokens l.role ++ (arrow_token a ∷ ts))) (symbol 31 (word l.type) ∷ role_row 32 33 34 l.role (symbol 35 (arrow_token a) ∷ row))
    from q e f g =
        step (name-leads q 31 e f g l.type i) refl
        (role-whole refl (name-leads 32 33 refl refl refl) refl refl refl refl l.role j (arrow 31 refl refl refl refl) (arrow 34 refl refl refl refl))

-- ---- the item

pub item-whole : (i : Item) → are_names (item_names i) ≡ true → item_integers i ≡ true → Whole 3 (item_tokens i) (row_of i)
unfolding item_tokens item_names item_integers are_names next lookup class_of
item-whole (class_item m n supers faces body) h k =
    let t = both_right (is_name n) (are_names (supers ++ (faces ++ body_names body))) h in
    let u = names-right supers (faces ++ body_names body) t in
    class-whole m (supers-whole n supers faces body (both_left _ _ h) (names-left supers (faces ++ body_names body) t) (names-left faces (body_names body) u) (names-right faces (body_names body) u))
item-whole (interface_item n supers) h k =
    step (ap (next 3) (quoted-class 4 (omega arith))) refl (step (name-leads 16 17 refl refl refl n (both_left _ _ h)) refl
    (clause-whole 18 19 refl refl refl (name-leads 18 19 refl refl refl) 17 (quoted 2) (ap (next 17) (quoted-class 2 (omega arith))) supers (both_right (is_name n) (are_names supers) h)
    (last refl) (last refl)))
item-whole (enum_item n constants) h k =
    step (ap (next 3) (quoted-class 5 (omega arith))) refl (step (name-leads 20 21 refl refl refl n (both_left _ _ h)) refl
    (constants-whole constants (both_right (is_name n) (are_names constants) h)))
item-whole (association_item f l a r) h k =
    let tail = optional r.role ++ (r.type ∷ []) in
    let t = both_right (is_name l.type) (are_names (optional l.role ++ tail)) h in
    let u = names-right (optional l.role) tail t in
    let v = names-right (optional r.role) (r.type ∷ []) u in
    step (form-leads f) refl
    (left-end-whole l a (both_left _ _ k) (both_left _ _ h) (names-left (optional l.role) tail t)
    (right-end-whole r (both_right (end_integers l.cardinality) (end_integers r.cardinality) k) (names-left (optional r.role) (r.type ∷ []) u) (both_left _ _ v)))
