-- What an item's row declares is what the item declares, and its names are the item's.
-- Assumes nothing.
use Prim.Native.Nat.{ℕ}
use native.Mathlib.Omega.{arith}
use mathlib.Core.Bool.{cond, true}
use mathlib.Core.List.{List, [], ◌++◌, ◌∷◌}
use mathlib.Core.Option.{Option, none, some}
use mathlib.Core.Path.{◌∙◌, ◌≡◌, ap, refl}
use lib.Dec.{eqb, ltb}
use lib.ListN.{get_or}
use Rattle.laws.specs.Bounded.{any}
use Rattle.laws.specs.Connective.{either}
use Rattle.laws.specs.Lists.{member}
use Rattle.files.specs.Name.{Name}
use Rattle.texts.specs.Declaration.{Declaration, DeclaredEnd, arrow_of, attributes_of, declaration_of, end_of, form_of, kind_of, limits_of, lowered, nowhere, role_of}
use Rattle.texts.specs.Grammar.{Arrow, Cardinality, Form, Item, Modifier, TextAttribute, TextEnd, abstract, are_names, arrow_token, association, association_item, at_least, between, body_names, both_ways, class_item, composition, enum_item, exactly, form_token, interface_item, item_names, left, many, no-head, optional, plain, right, singleton}
use Rattle.texts.specs.Table.{Symbol, arrow_in, declaration_in, end_for, is_name_state, limits_in, passes, role_in, what_in}
use Rattle.texts.specs.TextChecks.{is_long}
use Rattle.texts.specs.Token.{Token, class_of, is_name, word}
use Rattle.laws.proofs.ConnectiveLaws.{both_left}
use Rattle.texts.proofs.ItemPicked.{Picked, class_by, passes_by, picked_all, word-class, words-all, words-front, words_same, words_by}
use Rattle.texts.proofs.ItemPicks.{dots, high_part, item-picked, item_pick, low_digits, role_word}
use Rattle.texts.proofs.ItemRow.{row_of}
use Rattle.texts.proofs.RowLaws.{class-picked, first_class, long-picked, long_row, picks, words, words-picked}
use Rattle.texts.proofs.TokenClassLaws.{mark-class, quoted-class}

abbrev end_by : ℕ → ℕ → ℕ → ℕ → ℕ → Picked → DeclaredEnd
end_by low dots up type role f =
    record {
      limits = limits_in (words_by low low low f) (passes_by dots f) (words_by up up up f);
      type = get_or (words_by type type type f) 0 [];
      role = role_in (words_by role role role f) (get_or (words_by type type type f) 0 []);
    }

abbrev declaration_by : Picked → Declaration
declaration_by f =
    record {
      what =
          cond (passes_by 8 f) (cond (passes_by 4 f) 3 (cond (passes_by 6 f) 1 0))
          (cond (passes_by 17 f) 2 (cond (passes_by 21 f) 4 (cond (passes_by 25 f) (cond (eqb (class_by 25 f) 23) 6 5) 7)));
      name = get_or (words_by 8 17 21 f) 0 [];
      superclasses = words_by 10 10 10 f;
      interfaces = words_by 12 19 19 f;
      attribute_types = words_by 14 14 14 f;
      attribute_names = words_by 15 15 15 f;
      constants = words_by 23 23 23 f;
      arrow = arrow_in (class_by 35 f);
      left_end = end_by 27 28 29 31 33 f;
      right_end = end_by 41 42 43 39 37 f;
    }

declaration-picked : (row : List Symbol) → declaration_in row ≡ declaration_by (λ p. picks p row)
unfolding declaration_in what_in passes end_for
declaration-picked row = simp (words-picked, class-picked)

-- ---- declarations

class-what : (m : Modifier) (n : Name) (supers faces : List Name) (body : Option (List TextAttribute)) → is_name n ≡ true
    → (declaration_by (item_pick (class_item m n supers faces body))).what ≡ kind_of m
unfolding first_class kind_of
class-what plain n supers faces body h = rw (word-class n h)
class-what abstract n supers faces body h = rw (word-class n h, quoted-class 8 (omega arith))
class-what singleton n supers faces body h = rw (word-class n h, mark-class 4)

class-declared : (m : Modifier) (n : Name) (supers faces : List Name) (body : Option (List TextAttribute)) → is_name n ≡ true
    → declaration_by (item_pick (class_item m n supers faces body)) ≡ declaration_of (class_item m n supers faces body)
unfolding declaration_of words first_class either limits_in role_in arrow_in lowered
class-declared m n supers faces body h =
    λ i. record {
      what = class-what m n supers faces body h i;
      name = n;
      superclasses = words_same supers i;
      interfaces = words_same faces i;
      attribute_types = words-all (λ (x : TextAttribute). x.type) (attributes_of body) i;
      attribute_names = words-all (λ (x : TextAttribute). x.name) (attributes_of body) i;
      constants = [];
      arrow = 0;
      left_end = nowhere;
      right_end = nowhere;
    }

interface-declared : (n : Name) (supers : List Name) → is_name n ≡ true → declaration_by (item_pick (interface_item n supers)) ≡ declaration_of (interface_item n supers)
unfolding declaration_of words first_class either limits_in role_in arrow_in lowered
interface-declared n supers h =
    let what : (declaration_by (item_pick (interface_item n supers))).what ≡ 2 = rw (word-class n h) in
    λ i. record { what = what i; name = n; superclasses = []; interfaces = words_same supers i; attribute_types = []; attribute_names = []; constants = []; arrow = 0; left_end = nowhere; right_end = nowhere }

enum-declared : (n : Name) (constants : List Name) → is_name n ≡ true → declaration_by (item_pick (enum_item n constants)) ≡ declaration_of (enum_item n constants)
unfolding declaration_of words first_class either limits_in role_in arrow_in lowered
enum-declared n constants h =
    let what : (declaration_by (item_pick (enum_item n constants))).what ≡ 4 = rw (word-class n h) in
    λ i. record { what = what i; name = n; superclasses = []; interfaces = []; attribute_types = []; attribute_names = []; constants = words_same constants i; arrow = 0; left_end = nowhere; right_end = nowhere }

form-what : (f : Form) → cond (ltb (class_of (form_token f)) 29) (cond (eqb (class_of (form_token f)) 23) 6 5) 7 ≡ form_of f
unfolding form_token form_of
form-what association = rw (quoted-class 6 (omega arith))
form-what composition = rw (quoted-class 7 (omega arith))

arrow-is : (a : Arrow) → arrow_in (class_of (arrow_token a)) ≡ arrow_of a
unfolding arrow_token arrow_of arrow_in class_of
arrow-is right = refl
arrow-is left = refl
arrow-is both_ways = refl
arrow-is no-head = refl

limits-are : (k : Option Cardinality) → limits_in (words (low_digits k ++ [])) (ltb (first_class (dots k ++ [])) 29) (words (high_part k ++ [])) ≡ limits_of k
unfolding limits_in words first_class limits_of class_of
limits-are none = refl
limits-are (some many) = refl
limits-are (some (exactly n)) = refl
limits-are (some (between n m)) = refl
limits-are (some (at_least n)) = refl

role-is : (k : Option Name) (type : Name) → role_in (words (role_word k ++ [])) type ≡ role_of k type
unfolding role_in words role_of
role-is none type = refl
role-is (some w) type = refl

association-declared : (f : Form) (l : TextEnd) (a : Arrow) (r : TextEnd)
    → declaration_by (item_pick (association_item f l a r)) ≡ declaration_of (association_item f l a r)
unfolding declaration_of end_of words first_class either
association-declared f l a r =
    λ i. record {
      what = form-what f i;
      name = [];
      superclasses = [];
      interfaces = [];
      attribute_types = [];
      attribute_names = [];
      constants = [];
      arrow = arrow-is a i;
      left_end = record { limits = limits-are l.cardinality i; type = l.type; role = role-is l.role l.type i };
      right_end = record { limits = limits-are r.cardinality i; type = r.type; role = role-is r.role r.type i };
    }

pub row-declares : (i : Item) → are_names (item_names i) ≡ true → declaration_in (row_of i) ≡ declaration_of i
unfolding are_names item_names
row-declares i h = declaration-picked (row_of i) ∙ ap declaration_by (picked_all i) ∙ go i h
  where
    go : (i : Item) → are_names (item_names i) ≡ true → declaration_by (item_pick i) ≡ declaration_of i
    go (class_item m n supers faces body) h = class-declared m n supers faces body (both_left _ _ h)
    go (interface_item n supers) h = interface-declared n supers (both_left _ _ h)
    go (enum_item n constants) h = enum-declared n constants (both_left _ _ h)
    go (association_item f l a r) h = association-declared f l a r

-- ---- names

role-front : (k : Option Name) (ts : List Token) → words (role_word k ++ ts) ≡ optional k ++ words ts
unfolding words
role-front none ts = refl
role-front (some w) ts = refl

names-picked : (i : Item) → words (item_pick i is_name_state) ≡ item_names i
unfolding item_names is_name_state any words
names-picked (class_item m n supers faces body) =
    ap {B = List Name} (λ ws. n ∷ ws) (words-front supers _
    ∙ ap {B = List Name} (λ ws. supers ++ ws) (words-front faces _ ∙ ap {B = List Name} (λ ws. faces ++ ws) (words_same (body_names body))))
names-picked (interface_item n supers) = ap {B = List Name} (λ ws. n ∷ ws) (words_same supers)
names-picked (enum_item n constants) = ap {B = List Name} (λ ws. n ∷ ws) (words_same constants)
names-picked (association_item f l a r) =
    ap {B = List Name} (λ ws. l.type ∷ ws) (role-front l.role _ ∙ ap {B = List Name} (λ ws. optional l.role ++ ws) (role-front r.role (word r.type ∷ [])))

pub row-long : (i : Item) → long_row (row_of i) ≡ member is_long (item_names i)
row-long i = long-picked (row_of i) ∙ ap (λ (ts : List Token). member is_long (words ts)) (item-picked is_name_state i) ∙ ap (member is_long) (names-picked i)
