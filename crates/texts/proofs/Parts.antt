-- Parts of a tree at the front of a row of tokens, and how a token in front makes one part another: the productions read from
-- their ends.
-- Assumes nothing.
use mathlib.Core.Bool.{Bool, true}
use mathlib.Core.List.{List, [], ◌++◌, ◌∷◌}
use mathlib.Core.Logic.{◌⊎◌, inl, inr}
use mathlib.Core.Option.{none, some}
use mathlib.Core.Path.{◌∙◌, ◌≡◌, ap, refl}
use Rattle.files.specs.Name.{Name}
use Rattle.texts.specs.Grammar.{Arrow, are_names, arrow_token, at_least, between, cardinality_tokens, clause, comma, end_integers, exactly, further, many, optional, role_tokens, star}
use Rattle.texts.specs.Token.{Token, is_integer, is_name, mark, word}
use Rattle.laws.proofs.ConnectiveLaws.{both_of}
use Rattle.texts.proofs.TokenClassLaws.{IsNamed, IsNumber}

-- what may follow
abbrev pub Follow : Type 1
Follow = List Token → Type 0

-- a part stands at the front, written by `print` and fit by `ok`, and what follows is K
pub record Part {X : Type 0} (print : X → List Token) (ok : X → Bool) (K : Follow) (ts : List Token) : Type 0 where
  pub part : X
  pub rest : List Token
  pub written : ts ≡ print part ++ rest
  pub fits : ok part ≡ true
  pub follows : K rest

abbrev pub Mark : Token → Follow → Follow
Mark t K = Part {X = Unit {0}} (λ x. t ∷ []) (λ x. true) K

abbrev pub Named : Follow → Follow
Named K = Part (λ (w : Name). word w ∷ []) is_name K

abbrev pub Number : Follow → Follow
Number K = Part (λ (w : Name). word w ∷ []) is_integer K

abbrev pub Clause : Token → Follow → Follow
Clause t K = Part (clause t) are_names K

abbrev pub Further : Follow → Follow
Further K = Part further are_names K

abbrev pub Role : Follow → Follow
Role K = Part role_tokens (λ k. are_names (optional k)) K

abbrev pub Limited : Follow → Follow
Limited K = Part cardinality_tokens end_integers K

abbrev pub Arrowed : Follow → Follow
Arrowed K = Part (λ (a : Arrow). arrow_token a ∷ []) (λ a. true) K

-- ---- one token

pub marked : (t : Token) {K : Follow} {ts : List Token} → K ts → Mark t K (t ∷ ts)
marked t {ts = ts} r = record { part = tt; rest = ts; written = refl; fits = refl; follows = r }

pub named-part : {K : Follow} {t : Token} {ts : List Token} → IsNamed t → K ts → Named K (t ∷ ts)
named-part {ts = ts} m r = record { part = m.spelled; rest = ts; written = ap {B = List Token} (λ x. x ∷ ts) m.is; fits = m.fits; follows = r }

pub number-part : {K : Follow} {t : Token} {ts : List Token} → IsNumber t → K ts → Number K (t ∷ ts)
number-part {ts = ts} m r = record { part = m.spelled; rest = ts; written = ap {B = List Token} (λ x. x ∷ ts) m.is; fits = m.digits; follows = r }

pub arrowed : (a : Arrow) {K : Follow} {ts : List Token} → K ts → Arrowed K (arrow_token a ∷ ts)
arrowed a {ts = ts} r = record { part = a; rest = ts; written = refl; fits = refl; follows = r }

-- ---- lists of names

pub no-clause : (t : Token) {K : Follow} {ts : List Token} → K ts → Clause t K ts
unfolding clause are_names
no-clause t {ts = ts} r = record { part = []; rest = ts; written = refl; fits = refl; follows = r }

pub no-further : {K : Follow} {ts : List Token} → K ts → Further K ts
unfolding further are_names
no-further {ts = ts} r = record { part = []; rest = ts; written = refl; fits = refl; follows = r }

pub some-clause : (t : Token) {K : Follow} {ts : List Token} → Named (Further K) ts → Clause t K (t ∷ ts)
unfolding clause are_names
some-clause t r =
    let s = r.follows in
    record {
      part = r.part ∷ s.part;
      rest = s.rest;
      written = ap {B = List Token} (λ x. t ∷ x) (r.written ∙ ap {B = List Token} (λ x. word r.part ∷ x) s.written);
      fits = both_of _ _ r.fits s.fits;
      follows = s.follows;
    }

pub some-further : {K : Follow} {ts : List Token} → Named (Further K) ts → Further K (comma ∷ ts)
unfolding further are_names
some-further r =
    let s = r.follows in
    record {
      part = r.part ∷ s.part;
      rest = s.rest;
      written = ap {B = List Token} (λ x. comma ∷ x) (r.written ∙ ap {B = List Token} (λ x. word r.part ∷ x) s.written);
      fits = both_of _ _ r.fits s.fits;
      follows = s.follows;
    }

-- ---- roles and cardinalities

pub no-role : {K : Follow} {ts : List Token} → K ts → Role K ts
unfolding role_tokens are_names
no-role {ts = ts} r = record { part = none; rest = ts; written = refl; fits = refl; follows = r }

pub some-role : {K : Follow} {ts : List Token} → Named (Mark (mark 12) K) ts → Role K (mark 11 ∷ ts)
unfolding role_tokens are_names
some-role r =
    let s = r.follows in
    record {
      part = some r.part;
      rest = s.rest;
      written = ap {B = List Token} (λ x. mark 11 ∷ x) (r.written ∙ ap {B = List Token} (λ x. word r.part ∷ x) s.written);
      fits = both_of _ _ r.fits refl;
      follows = s.follows;
    }

-- behind "..", behind the low integer, behind "["
abbrev pub AfterDots : Follow → Follow
AfterDots K ts = Number (Mark (mark 14) K) ts ⊎ Mark star (Mark (mark 14) K) ts

abbrev pub AfterLow : Follow → Follow
AfterLow K ts = Mark (mark 14) K ts ⊎ Mark (mark 6) (AfterDots K) ts

abbrev pub AfterBracket : Follow → Follow
AfterBracket K ts = Mark star (Mark (mark 14) K) ts ⊎ Number (AfterLow K) ts

pub no-cardinality : {K : Follow} {ts : List Token} → K ts → Limited K ts
unfolding cardinality_tokens
no-cardinality {ts = ts} r = record { part = none; rest = ts; written = refl; fits = refl; follows = r }

-- equations of rows, a token at a time
then : {t : Token} {ts rest whole : List Token} → ts ≡ t ∷ rest → rest ≡ whole → ts ≡ t ∷ whole
then {t = t} e f = e ∙ ap {B = List Token} (λ x. t ∷ x) f

pub some-cardinality : {K : Follow} {ts : List Token} → AfterBracket K ts → Limited K (mark 13 ∷ ts)
unfolding cardinality_tokens
some-cardinality (inl r) =
    let s = r.follows in
    record { part = some many; rest = s.rest; written = then refl (then r.written s.written); fits = refl; follows = s.follows }
some-cardinality {K = K} {ts = ts} (inr r) = low r.follows
  where
    up : (s : Mark (mark 6) (AfterDots K) r.rest) → AfterDots K s.rest → Limited K (mark 13 ∷ ts)
    up s (inl u) =
        let v = u.follows in
        record {
          part = some (between r.part u.part);
          rest = v.rest;
          written = then refl (then r.written (then s.written (then u.written v.written)));
          fits = both_of _ _ r.fits u.fits;
          follows = v.follows;
        }
    up s (inr u) =
        let v = u.follows in
        record {
          part = some (at_least r.part);
          rest = v.rest;
          written = then refl (then r.written (then s.written (then u.written v.written)));
          fits = r.fits;
          follows = v.follows;
        }

    low : AfterLow K r.rest → Limited K (mark 13 ∷ ts)
    low (inl s) = record { part = some (exactly r.part); rest = s.rest; written = then refl (then r.written s.written); fits = r.fits; follows = s.follows }
    low (inr s) = up s s.follows
