-- The class of a token: what each class says of a token, and the class that each token of the grammar has.
-- Assumes nothing.
use Prim.Native.Nat.{◌+◌, ◌-◌, ◌<◌, ◌≤◌, ℕ}
use native.Mathlib.Omega.{arith}
use mathlib.Core.Bool.{Bool, cond, false, not, true}
use mathlib.Core.List.{[]}
use mathlib.Core.Path.{◌∙◌, ◌≡◌, ap, refl, sym}
use lib.Dec.{eqb, ltb}
use lib.ListN.{get_or}
use borrow.Author.Tests.{eq-eqb, eqb-false, eqb-true, le-ltb, lt-ltb, not-true}
use Rattle.laws.specs.Bounded.{all, any, first}
use Rattle.laws.specs.Connective.{both}
use Rattle.laws.specs.Order.{order}
use Rattle.files.specs.Name.{Name}
use Rattle.texts.specs.Grammar.{quoted}
use Rattle.texts.specs.Token.{Token, class_of, is_digit, is_integer, is_name, mark, quoted_at, quoted_words, same_word, singleton_word, stray, word, word_class}
use Rattle.laws.proofs.BoundedLaws.{all-at, any_none}
use Rattle.laws.proofs.FirstLaws.{first_holds, first-le, first-none}
use Rattle.laws.proofs.OrderLaws.{is_equal-eq}

same-word : (v w : Name) → same_word v w ≡ true → v ≡ w
unfolding same_word
same-word v w e = is_equal-eq v w e

pub mark-class : (i : ℕ) → class_of (mark i) ≡ i
unfolding class_of
mark-class i = refl

-- ---- names and integers

-- a name's class is 25, 26 or 27
pub name-class : (P : ℕ → Type 0) → P 25 → P 26 → P 27 → (w : Name) → is_name w ≡ true → P (word_class w)
unfolding word_class
name-class P a b c w e = rw e (go (same_word singleton_word w) (is_integer w))
  where
    go : (s i : Bool) → P (cond s 25 (cond i 26 27))
    go true i = a
    go false true = b
    go false false = c

-- no quoted word, nor "singleton", is a run of digits
no-integer : (v w : Name) → is_integer v ≡ false → is_integer w ≡ true → same_word v w ≡ false
no-integer v w n i = go (same_word v w) refl
  where
    go : (b : Bool) → same_word v w ≡ b → b ≡ false
    go true e = sym i ∙ ap is_integer (sym (same-word v w e)) ∙ n
    go false e = refl

quoted-no-integers : all (λ k. not (is_integer (get_or quoted_words k []))) 9 ≡ true
unfolding all is_integer is_digit both
quoted-no-integers = refl

pub integer-name : (w : Name) → is_integer w ≡ true → is_name w ≡ true
unfolding is_name quoted_at
integer-name w i =
    eq-eqb _ _ (first-none (λ k. same_word (get_or quoted_words k []) w) 9
    (any_none (λ k. same_word (get_or quoted_words k []) w) 9
    (λ k l. no-integer (get_or quoted_words k []) w (not-true _ (all-at (λ j. not (is_integer (get_or quoted_words j []))) 9 quoted-no-integers k l)) i)))

singleton-no-integer : is_integer singleton_word ≡ false
unfolding all is_integer is_digit both
singleton-no-integer = refl

pub integer-class : (w : Name) → is_integer w ≡ true → word_class w ≡ 26
unfolding word_class
integer-class w i = rw (integer-name w i, no-integer singleton_word w singleton-no-integer i, i)

-- ---- the quoted words

quoted-classes : all (λ k. eqb (class_of (quoted k)) (16 + k)) 9 ≡ true
unfolding all any first order class_of word_class is_name quoted_at same_word is_integer is_digit both
quoted-classes = refl

pub quoted-class : (k : ℕ) → k < 9 → class_of (quoted k) ≡ 16 + k
quoted-class k l = eqb-true _ _ (all-at (λ j. eqb (class_of (quoted j)) (16 + j)) 9 quoted-classes k l)

pub singleton-class : class_of (word singleton_word) ≡ 25
unfolding all any first order class_of word_class is_name quoted_at same_word is_integer is_digit both
singleton-class = refl

-- ---- what a class says of a token

pub record IsNamed (t : Token) : Type 0 where
  pub spelled : Name
  pub is : t ≡ word spelled
  pub fits : is_name spelled ≡ true

pub record IsNumber (t : Token) : Type 0 where
  pub spelled : Name
  pub is : t ≡ word spelled
  pub digits : is_integer spelled ≡ true

pub singleton-named : (t : Token) → t ≡ word singleton_word → IsNamed t
unfolding any first order is_name quoted_at same_word
singleton-named t e = record { spelled = singleton_word; is = e; fits = refl }

pub number-named : (t : Token) → IsNumber t → IsNamed t
number-named t n = record { spelled = n.spelled; is = n.is; fits = integer-name n.spelled n.digits }

abbrev pub Meant : ℕ → Token → Type 0
Meant c t =
    cond (ltb c 16) (t ≡ mark c)
    (cond (ltb c 25) (t ≡ quoted (c - 16))
    (cond (eqb c 25) (t ≡ word singleton_word)
    (cond (eqb c 26) (IsNumber t)
    (cond (eqb c 27) (IsNamed t) (Unit {0})))))

-- a mark is one of the sixteen
unfoldable pub mark_below : Token → Bool
mark_below (word w) = true
mark_below (mark i) = ltb i 16
mark_below (stray b) = true

quoted-meant : (w : Name) (k : ℕ) → k < 9 → w ≡ get_or quoted_words k [] → Meant (16 + k) (word w)
quoted-meant w k l e =
    let s : k ≡ 16 + k - 16 = omega arith in
    rw (le-ltb (16 + k) 16 (omega arith), lt-ltb (16 + k) 25 (omega arith))
    (ap word (e ∙ ap (λ (j : ℕ). get_or quoted_words j []) s))

pub meant : (t : Token) → mark_below t ≡ true → Meant (class_of t) t
unfolding class_of word_class mark_below is_name quoted_at
meant (word w) m = go (is_name w) refl (same_word singleton_word w) refl (is_integer w) refl
  where
    p : ℕ → Bool
    p i = same_word (get_or quoted_words i []) w

    go : (n : Bool) → eqb (first p 9) 9 ≡ n → (s : Bool) → same_word singleton_word w ≡ s → (i : Bool) → is_integer w ≡ i
        → Meant (cond n (cond s 25 (cond i 26 27)) (16 + first p 9)) (word w)
    go true e true f i g = ap word (sym (same-word singleton_word w f))
    go true e false f true g = record { spelled = w; is = refl; digits = g }
    go true e false f false g = record { spelled = w; is = refl; fits = e }
    go false e s f i g =
        let l : first p 9 ≤ 9 = first-le p 9 in
        let ne : first p 9 ≡ 9 → ⊥ = eqb-false _ _ e in
        let k : first p 9 < 9 = omega arith in
        quoted-meant w (first p 9) k (sym (same-word (get_or quoted_words (first p 9) []) w (first_holds p 9 k)))
meant (mark i) m = rw m refl
meant (stray b) m = tt
