-- An item can be read back from its row: items with the same row are the same.
-- Assumes nothing.
use Prim.Native.Nat.{ℕ}
use native.Mathlib.Omega.{arith}
use mathlib.Core.Bool.{Bool, cond, false, true}
use mathlib.Core.List.{List, [], ◌++◌, ◌∷◌, map}
use mathlib.Core.Option.{Option, none, some}
use mathlib.Core.Path.{◌∙◌, ◌≡◌, ap, ap₂, refl, sym}
use lib.Dec.{eqb, ltb}
use lib.ListN.{get_or}
use Rattle.laws.specs.Connective.{either}
use Rattle.files.specs.Name.{Name}
use Rattle.texts.specs.Declaration.{attributes_of}
use Rattle.texts.specs.Grammar.{Arrow, Cardinality, Form, Item, Modifier, TextAttribute, TextEnd, abstract, are_names, arrow_token, association, association_item, at_least, between, both_ways, class_item, composition, enum_item, exactly, form_token, interface_item, item_names, left, many, no-head, plain, right, singleton}
use Rattle.texts.specs.Table.{Symbol}
use Rattle.texts.specs.Token.{class_of, mark, word}
use Rattle.laws.proofs.ConnectiveLaws.{both_left}
use Rattle.texts.proofs.ItemPicked.{Picked, class_by, passes_by, picked_all, word-class, words-all, words_same, words_by}
use Rattle.texts.proofs.ItemPicks.{bracket, closing, dots, high_part, item_pick, low_digits, role_word}
use Rattle.texts.proofs.ItemRow.{row_of}
use Rattle.texts.proofs.RowLaws.{first_class, picks, words}
use Rattle.texts.proofs.TokenClassLaws.{mark-class, quoted-class}

-- ---- the item read from its row

modifier_by : Bool → Bool → Modifier
modifier_by true b = singleton
modifier_by false true = abstract
modifier_by false false = plain

attributes_by : List Name → List Name → List TextAttribute
attributes_by [] ns = []
attributes_by (t ∷ ts) [] = []
attributes_by (t ∷ ts) (n ∷ ns) = record { type = t; name = n } ∷ attributes_by ts ns

body_by : Bool → List Name → List Name → Option (List TextAttribute)
body_by true ts ns = some (attributes_by ts ns)
body_by false ts ns = none

cardinality_by : Bool → List Name → Bool → List Name → Option Cardinality
cardinality_by false lows d ups = none
cardinality_by true [] d ups = some many
cardinality_by true (n ∷ lows) false ups = some (exactly n)
cardinality_by true (n ∷ lows) true [] = some (at_least n)
cardinality_by true (n ∷ lows) true (m ∷ ups) = some (between n m)

role_by : List Name → Option Name
role_by [] = none
role_by (w ∷ ws) = some w

end_read : ℕ → ℕ → ℕ → ℕ → ℕ → ℕ → Picked → TextEnd
end_read bracket low dots up type role f =
    record {
      cardinality = cardinality_by (passes_by bracket f) (words_by low low low f) (passes_by dots f) (words_by up up up f);
      type = get_or (words_by type type type f) 0 [];
      role = role_by (words_by role role role f);
    }

item_by : Picked → Item
item_by f =
    cond (passes_by 8 f)
    (class_item (modifier_by (passes_by 4 f) (passes_by 6 f)) (get_or (words_by 8 17 21 f) 0 []) (words_by 10 10 10 f) (words_by 12 19 19 f)
    (body_by (eqb (class_by 3 f) 8) (words_by 14 14 14 f) (words_by 15 15 15 f)))
    (cond (passes_by 17 f) (interface_item (get_or (words_by 8 17 21 f) 0 []) (words_by 12 19 19 f))
    (cond (passes_by 21 f) (enum_item (get_or (words_by 8 17 21 f) 0 []) (words_by 23 23 23 f))
    (association_item (cond (eqb (class_by 25 f) 23) composition association) (end_read 26 27 28 29 31 33 f)
    (cond (eqb (class_by 35 f) 0) both_ways (cond (eqb (class_by 35 f) 1) right (cond (eqb (class_by 35 f) 2) left no-head)))
    (end_read 40 41 42 43 39 37 f))))

modifier-again : (m : Modifier) (n : Name) (supers faces : List Name) (body : Option (List TextAttribute))
    → modifier_by (passes_by 4 (item_pick (class_item m n supers faces body))) (passes_by 6 (item_pick (class_item m n supers faces body))) ≡ m
unfolding modifier_by first_class
modifier-again plain n supers faces body = refl
modifier-again abstract n supers faces body = rw (quoted-class 8 (omega arith))
modifier-again singleton n supers faces body = rw (mark-class 4)

attributes-again : (list : List TextAttribute) → attributes_by (map (λ x. x.type) list) (map (λ x. x.name) list) ≡ list
unfolding attributes_by
attributes-again [] = refl
attributes-again (x ∷ list) = ap {B = List TextAttribute} (λ rest. x ∷ rest) (attributes-again list)

body-again : (body : Option (List TextAttribute))
    → body_by (eqb (first_class (closing body ++ [])) 8) (words (map (λ x. word x.type) (attributes_of body) ++ [])) (words (map (λ x. word x.name) (attributes_of body) ++ [])) ≡ body
unfolding body_by first_class class_of
body-again none = refl
body-again (some list) =
    ap {B = Option (List TextAttribute)} some (ap₂ attributes_by (words-all (λ (x : TextAttribute). x.type) list) (words-all (λ (x : TextAttribute). x.name) list) ∙ attributes-again list)

form-again : (f : Form) → cond (eqb (class_of (form_token f)) 23) composition association ≡ f
unfolding form_token
form-again association = rw (quoted-class 6 (omega arith))
form-again composition = rw (quoted-class 7 (omega arith))

arrow-again : (a : Arrow) → cond (eqb (class_of (arrow_token a)) 0) both_ways (cond (eqb (class_of (arrow_token a)) 1) right (cond (eqb (class_of (arrow_token a)) 2) left no-head)) ≡ a
unfolding arrow_token class_of
arrow-again right = refl
arrow-again left = refl
arrow-again both_ways = refl
arrow-again no-head = refl

cardinality-again : (k : Option Cardinality)
    → cardinality_by (ltb (first_class (bracket k (mark 13) ++ [])) 29) (words (low_digits k ++ [])) (ltb (first_class (dots k ++ [])) 29) (words (high_part k ++ [])) ≡ k
unfolding cardinality_by words first_class class_of
cardinality-again none = refl
cardinality-again (some many) = refl
cardinality-again (some (exactly n)) = refl
cardinality-again (some (between n m)) = refl
cardinality-again (some (at_least n)) = refl

role-again : (k : Option Name) → role_by (words (role_word k ++ [])) ≡ k
unfolding role_by words
role-again none = refl
role-again (some w) = refl

item-again : (i : Item) → are_names (item_names i) ≡ true → item_by (item_pick i) ≡ i
unfolding item_by end_read are_names item_names words first_class either
item-again (class_item m n supers faces body) h =
    rw (word-class n (both_left _ _ h))
    (λ i. class_item (modifier-again m n supers faces body i) n (words_same supers i) (words_same faces i) (body-again body i))
item-again (interface_item n supers) h = rw (word-class n (both_left _ _ h)) (λ i. interface_item n (words_same supers i))
item-again (enum_item n constants) h = rw (word-class n (both_left _ _ h)) (λ i. enum_item n (words_same constants i))
item-again (association_item f l a r) h =
    λ i. association_item (form-again f i)
    (record { cardinality = cardinality-again l.cardinality i; type = l.type; role = role-again l.role i })
    (arrow-again a i)
    (record { cardinality = cardinality-again r.cardinality i; type = r.type; role = role-again r.role i })

-- items with the same row are the same
pub row-unique : (i j : Item) → are_names (item_names i) ≡ true → are_names (item_names j) ≡ true → row_of i ≡ row_of j → i ≡ j
row-unique i j h k e =
    sym (item-again i h) ∙ ap item_by (sym (picked_all i)) ∙ ap (λ (row : List Symbol). item_by (λ p. picks p row)) e ∙ ap item_by (picked_all j) ∙ item-again j k
