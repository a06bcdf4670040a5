-- The items at the front of a row of tokens: bodies, constants and ends put together to an item, and an item in front of others.
-- Assumes nothing.
use mathlib.Core.Bool.{true}
use mathlib.Core.List.{List, [], ◌++◌, ◌∷◌, append_assoc}
use mathlib.Core.Option.{none, some}
use mathlib.Core.Path.{◌∙◌, ◌≡◌, ap, refl, sym}
use Rattle.files.specs.Name.{Name}
use Rattle.texts.specs.Grammar.{Form, Item, Modifier, are_names, arrow_token, association_item, attribute_names, attribute_tokens, body_names, body_tokens, cardinality_tokens, class_item, clause, close_brace, constant_tokens, enum_item, form_token, further, interface_item, item_integers, item_names, item_tokens, items_named, items_tokens, modifier_tokens, open_brace, optional, quoted, role_tokens, semicolon}
use Rattle.texts.specs.Token.{Token, is_name, word}
use Rattle.laws.proofs.ConnectiveLaws.{both_left, both_of, both_right}
use Rattle.texts.proofs.Parts.{Arrowed, Clause, Follow, Further, Limited, Mark, Named, Part, Role}
use Rattle.texts.proofs.TokenClassLaws.{IsNamed}

names-append : (xs ys : List Name) → are_names xs ≡ true → are_names ys ≡ true → are_names (xs ++ ys) ≡ true
unfolding are_names
names-append [] ys h k = k
names-append (x ∷ xs) ys h k = both_of _ _ (both_left _ _ h) (names-append xs ys (both_right (is_name x) (are_names xs) h) k)

-- ---- items and the brace behind them

pub record Items (ts : List Token) : Type 0 where
  pub items : List Item
  pub written : ts ≡ items_tokens items ++ (close_brace ∷ [])
  pub are-named : items_named items ≡ true

pub no_items : {ts : List Token} → ts ≡ [] → Items (close_brace ∷ ts)
unfolding items_tokens items_named
no_items e = record { items = []; written = ap {B = List Token} (λ x. close_brace ∷ x) e; are-named = refl }

some-items : (i : Item) {ts rest : List Token} → ts ≡ item_tokens i ++ rest → are_names (item_names i) ≡ true → item_integers i ≡ true → Items rest → Items ts
unfolding items_tokens items_named
some-items i e h k r =
    record {
      items = i ∷ r.items;
      written = e ∙ ap {B = List Token} (λ x. item_tokens i ++ x) r.written ∙ sym (append_assoc (item_tokens i) (items_tokens r.items) (close_brace ∷ []));
      are-named = both_of _ _ (both_of _ _ h k) r.are-named;
    }

-- ---- classes

abbrev pub Attributes : Follow → Follow
Attributes K = Part attribute_tokens (λ list. are_names (attribute_names list)) K

abbrev pub Body : Follow → Follow
Body K = Part body_tokens (λ body. are_names (body_names body)) K

pub no-attributes : {K : Follow} {ts : List Token} → K ts → Attributes K ts
unfolding attribute_tokens attribute_names are_names
no-attributes {ts = ts} r = record { part = []; rest = ts; written = refl; fits = refl; follows = r }

pub some-attributes : {K : Follow} {t : Token} {ts : List Token} → IsNamed t → Named (Mark semicolon (Attributes K)) ts → Attributes K (t ∷ ts)
unfolding attribute_tokens attribute_names are_names
some-attributes {t = t} {ts = ts} m r =
    let s = r.follows in
    let u = s.follows in
    record {
      part = record { type = m.spelled; name = r.part } ∷ u.part;
      rest = u.rest;
      written =
          ap {B = List Token} (λ x. x ∷ ts) m.is
          ∙ ap {B = List Token} (λ x. word m.spelled ∷ x) (r.written ∙ ap {B = List Token} (λ x. word r.part ∷ x) (s.written ∙ ap {B = List Token} (λ x. semicolon ∷ x) u.written));
      fits = both_of _ _ m.fits (both_of _ _ r.fits u.fits);
      follows = u.follows;
    }

pub no_body : {K : Follow} {ts : List Token} → K ts → Body K (semicolon ∷ ts)
unfolding body_tokens are_names
no_body {ts = ts} r = record { part = none; rest = ts; written = refl; fits = refl; follows = r }

pub some-body : {K : Follow} {ts : List Token} → Attributes (Mark close_brace K) ts → Body K (open_brace ∷ ts)
unfolding body_tokens
some-body r =
    let s = r.follows in
    record {
      part = some r.part;
      rest = s.rest;
      written =
          ap {B = List Token} (λ x. open_brace ∷ x) (r.written ∙ ap {B = List Token} (λ x. attribute_tokens r.part ++ x) s.written
          ∙ sym (append_assoc (attribute_tokens r.part) (close_brace ∷ []) s.rest));
      fits = r.fits;
      follows = s.follows;
    }

abbrev pub ClassRest : Follow
ClassRest = Named (Clause (quoted 2) (Clause (quoted 3) (Body Items)))

pub class-items : (m : Modifier) {ts : List Token} → ClassRest ts → Items (modifier_tokens m ++ (quoted 1 ∷ ts))
unfolding item_tokens item_names item_integers are_names
class-items m r =
    let s = r.follows in
    let f = s.follows in
    let b = f.follows in
    let supers = clause (quoted 2) s.part in
    let faces = clause (quoted 3) f.part in
    some-items (class_item m r.part s.part f.part b.part)
    (ap {B = List Token} (λ x. modifier_tokens m ++ (quoted 1 ∷ x)) (r.written
    ∙ ap {B = List Token} (λ x. word r.part ∷ x) (s.written ∙ ap {B = List Token} (λ x. supers ++ x) (f.written ∙ ap {B = List Token} (λ x. faces ++ x) b.written)))
    ∙ sym (simp append_assoc))
    (both_of _ _ r.fits (names-append s.part (f.part ++ body_names b.part) s.fits (names-append f.part (body_names b.part) f.fits b.fits)))
    refl b.follows

-- ---- interfaces and enumerations

abbrev pub InterfaceRest : Follow
InterfaceRest = Named (Clause (quoted 2) (Mark semicolon Items))

pub interface-items : {ts : List Token} → InterfaceRest ts → Items (quoted 4 ∷ ts)
unfolding item_tokens item_names item_integers are_names
interface-items r =
    let s = r.follows in
    let e = s.follows in
    let supers = clause (quoted 2) s.part in
    some-items (interface_item r.part s.part)
    (ap {B = List Token} (λ x. quoted 4 ∷ x) (r.written
    ∙ ap {B = List Token} (λ x. word r.part ∷ x) (s.written ∙ ap {B = List Token} (λ x. supers ++ x) e.written))
    ∙ sym (simp append_assoc))
    (both_of _ _ r.fits s.fits) refl e.follows

abbrev pub Constants : Follow → Follow
Constants K = Part constant_tokens are_names K

pub no-constants : {K : Follow} {ts : List Token} → K ts → Constants K (semicolon ∷ ts)
unfolding constant_tokens are_names
no-constants {ts = ts} r = record { part = []; rest = ts; written = refl; fits = refl; follows = r }

pub some-constants : {K : Follow} {ts : List Token} → Named (Further (Mark semicolon (Mark close_brace K))) ts → Constants K (open_brace ∷ ts)
unfolding constant_tokens are_names
some-constants r =
    let s = r.follows in
    let e = s.follows in
    let b = e.follows in
    record {
      part = r.part ∷ s.part;
      rest = b.rest;
      written =
          ap {B = List Token} (λ x. open_brace ∷ x) (r.written
          ∙ ap {B = List Token} (λ x. word r.part ∷ x) (s.written ∙ ap {B = List Token} (λ x. further s.part ++ x) (e.written ∙ ap {B = List Token} (λ x. semicolon ∷ x) b.written)))
          ∙ sym (simp append_assoc);
      fits = both_of _ _ r.fits s.fits;
      follows = b.follows;
    }

abbrev pub EnumRest : Follow
EnumRest = Named (Constants Items)

pub enum-items : {ts : List Token} → EnumRest ts → Items (quoted 5 ∷ ts)
unfolding item_tokens item_names item_integers are_names
enum-items r =
    let s = r.follows in
    some-items (enum_item r.part s.part)
    (ap {B = List Token} (λ x. quoted 5 ∷ x) (r.written ∙ ap {B = List Token} (λ x. word r.part ∷ x) s.written))
    (both_of _ _ r.fits s.fits) refl s.follows

-- ---- associations

abbrev pub RightEnd : Follow
RightEnd = Role (Named (Limited (Mark semicolon Items)))

abbrev pub LeftEnd : Follow
LeftEnd = Limited (Named (Role (Arrowed RightEnd)))

pub association-items : (f : Form) {ts : List Token} → LeftEnd ts → Items (form_token f ∷ ts)
unfolding item_tokens item_names item_integers are_names
association-items f c =
    let n = c.follows in
    let r = n.follows in
    let a = r.follows in
    let r' = a.follows in
    let n' = r'.follows in
    let c' = n'.follows in
    let e = c'.follows in
    some-items (association_item f (record { cardinality = c.part; type = n.part; role = r.part }) a.part (record { cardinality = c'.part; type = n'.part; role = r'.part }))
    (ap {B = List Token} (λ x. form_token f ∷ x) (c.written
    ∙ ap {B = List Token} (λ x. cardinality_tokens c.part ++ x) (n.written
    ∙ ap {B = List Token} (λ x. word n.part ∷ x) (r.written
    ∙ ap {B = List Token} (λ x. role_tokens r.part ++ x) (a.written
    ∙ ap {B = List Token} (λ x. arrow_token a.part ∷ x) (r'.written
    ∙ ap {B = List Token} (λ x. role_tokens r'.part ++ x) (n'.written
    ∙ ap {B = List Token} (λ x. word n'.part ∷ x) (c'.written
    ∙ ap {B = List Token} (λ x. cardinality_tokens c'.part ++ x) e.written)))))))
    ∙ sym (simp append_assoc))
    (both_of _ _ n.fits (names-append (optional r.part) (optional r'.part ++ (n'.part ∷ [])) r.fits
    (names-append (optional r'.part) (n'.part ∷ []) r'.fits (both_of _ _ n'.fits refl))))
    (both_of _ _ c.fits c'.fits) e.follows
