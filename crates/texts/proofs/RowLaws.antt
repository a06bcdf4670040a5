-- Rows of symbols: tokens that lead by a row to the first state 3, and what the table says of them. What is read from a row is read
-- from its tokens of some states, which `picks` gives.
-- Assumes nothing.
use Prim.Native.Nat.{ℕ}
use mathlib.Core.Bool.{Bool, cond, false, true}
use mathlib.Core.List.{List, [], ◌++◌, ◌∷◌}
use mathlib.Core.Path.{◌∙◌, ◌≡◌, ap, refl, sym}
use lib.Dec.{eqb}
use Rattle.laws.specs.Connective.{both, either}
use Rattle.laws.specs.Lists.{member}
use Rattle.files.specs.Name.{Name}
use Rattle.texts.specs.Table.{Symbol, accepts, class_for, has_long_from, is_name_state, long_at, next, onto, rows_from, symbol, word_if, words_for}
use Rattle.texts.specs.TextChecks.{is_long}
use Rattle.texts.specs.Token.{Token, class_of, mark, stray, word}
use Rattle.laws.proofs.ConnectiveLaws.{or-is-either}

-- the tokens lead from a state by the row to the first state 3
pub data Whole : ℕ → List Token → List Symbol → Type 0 where
  last : {q : ℕ} {t : Token} → next q (class_of t) ≡ 3 → Whole q (t ∷ []) (symbol 3 t ∷ [])
  step : {q n : ℕ} {t : Token} {ts : List Token} {row : List Symbol} → next q (class_of t) ≡ n → eqb n 3 ≡ false → Whole n ts row
      → Whole q (t ∷ ts) (symbol n t ∷ row)

pub whole-accepts : {q : ℕ} {xs : List Token} {row : List Symbol} → Whole q xs row → (ts : List Token) → accepts q (xs ++ ts) ≡ accepts 3 ts
unfolding accepts
whole-accepts (last e) ts = ap (λ (k : ℕ). accepts k ts) e
whole-accepts (step {ts = xs} e f w) ts = ap (λ (k : ℕ). accepts k (xs ++ ts)) e ∙ whole-accepts w ts

pub whole-rows : {q : ℕ} {xs : List Token} {row : List Symbol} → Whole q xs row → (ts : List Token) → rows_from q (xs ++ ts) ≡ row ∷ rows_from 3 ts
unfolding rows_from
whole-rows (last {t = t} e) ts = ap (λ (k : ℕ). cond (eqb k 3) ((symbol k t ∷ []) ∷ rows_from k ts) (onto (symbol k t) (rows_from k ts))) e
whole-rows (step {n = n} {t = t} {ts = xs} e f w) ts =
    ap (λ (k : ℕ). cond (eqb k 3) ((symbol k t ∷ []) ∷ rows_from k (xs ++ ts)) (onto (symbol k t) (rows_from k (xs ++ ts)))) e
    ∙ ap (λ (b : Bool). cond b ((symbol n t ∷ []) ∷ rows_from n (xs ++ ts)) (onto (symbol n t) (rows_from n (xs ++ ts)))) f
    ∙ ap (onto (symbol n t)) (whole-rows w ts)

-- some token of the row is a name over 16 bytes
unfoldable pub long_row : List Symbol → Bool
long_row [] = false
long_row (s ∷ row) = either (long_at s.state s.token) (long_row row)

either-regroup : (a b c : Bool) → either a (either b c) ≡ either (either a b) c
unfolding either
either-regroup true b c = refl
either-regroup false b c = refl

pub whole_long : {q : ℕ} {xs : List Token} {row : List Symbol} → Whole q xs row → (ts : List Token)
    → has_long_from q (xs ++ ts) ≡ either (long_row row) (has_long_from 3 ts)
unfolding has_long_from long_row either
whole_long (last {t = t} e) ts =
    ap (λ (k : ℕ). either (long_at k t) (has_long_from k ts)) e ∙ either-regroup (long_at 3 t) false (has_long_from 3 ts)
whole_long (step {n = n} {t = t} {ts = xs} {row = row} e f w) ts =
    ap (λ (k : ℕ). either (long_at k t) (has_long_from k (xs ++ ts))) e ∙ ap (either (long_at n t)) (whole_long w ts)
    ∙ either-regroup (long_at n t) (long_row row) (has_long_from 3 ts)

-- ---- the tokens of some states

unfoldable pub picks : (ℕ → Bool) → List Symbol → List Token
picks p [] = []
picks p (s ∷ row) = cond (p s.state) (s.token ∷ picks p row) (picks p row)

unfoldable pub words : List Token → List Name
words [] = []
words (word w ∷ ts) = w ∷ words ts
words (mark i ∷ ts) = words ts
words (stray b ∷ ts) = words ts

unfoldable pub first_class : List Token → ℕ
first_class [] = 29
first_class (t ∷ ts) = class_of t

-- one of three states
abbrev pub one_of : ℕ → ℕ → ℕ → ℕ → Bool
one_of a b c q = either (eqb q a) (either (eqb q b) (eqb q c))

pub words-picked : (a b c : ℕ) (row : List Symbol) → words_for a b c row ≡ words (picks (one_of a b c) row)
unfolding words_for picks words
words-picked a b c [] = refl
words-picked a b c (s ∷ row) = go (one_of a b c s.state) s.token (words-picked a b c row)
  where
    go : (h : Bool) (t : Token) → words_for a b c row ≡ words (picks (one_of a b c) row)
        → word_if h t (words_for a b c row) ≡ words (cond h (t ∷ picks (one_of a b c) row) (picks (one_of a b c) row))
    go true (word w) e = ap {B = List Name} (λ ws. w ∷ ws) e
    go false (word w) e = e
    go true (mark i) e = e
    go false (mark i) e = e
    go true (stray x) e = e
    go false (stray x) e = e

pub class-picked : (q : ℕ) (row : List Symbol) → class_for q row ≡ first_class (picks (λ n. eqb n q) row)
unfolding class_for picks first_class
class-picked q [] = refl
class-picked q (s ∷ row) = go (eqb s.state q) (class-picked q row)
  where
    go : (h : Bool) → class_for q row ≡ first_class (picks (λ n. eqb n q) row)
        → cond h (class_of s.token) (class_for q row) ≡ first_class (cond h (s.token ∷ picks (λ n. eqb n q) row) (picks (λ n. eqb n q) row))
    go true e = refl
    go false e = e

pub long-picked : (row : List Symbol) → long_row row ≡ member is_long (words (picks is_name_state row))
unfolding long_row picks words member long_at both either
long-picked [] = refl
long-picked (s ∷ row) = go (is_name_state s.state) refl s.token (long-picked row)
  where
    go : (h : Bool) → is_name_state s.state ≡ h → (t : Token) → long_row row ≡ member is_long (words (picks is_name_state row))
        → either (long_at s.state t) (long_row row) ≡ member is_long (words (cond h (t ∷ picks is_name_state row) (picks is_name_state row)))
    go true f (word w) e = rw f (ap (either (is_long w)) e ∙ sym (or-is-either (is_long w) _))
    go false f (word w) e = rw f e
    go true f (mark i) e = e
    go false f (mark i) e = e
    go true f (stray x) e = e
    go false f (stray x) e = e
