-- A word's class by the one known word that it can be, as the code tells it.
-- Assumes nothing.
use Prim.Native.Nat.{ℕ, ◌+◌, ◌<◌, ◌≤◌}
use native.Mathlib.Omega.{arith}
use mathlib.Core.Bool.{Bool, cond, false, true}
use mathlib.Core.List.{List, []}
use mathlib.Core.Logic.{⊎_elim}
use mathlib.Core.Path.{◌≡◌, ◌∙◌, ap, refl, sym}
use lib.Dec.{eqb, ltb}
use lib.ListN.{get_or}
use borrow.Author.Tests.{eq-eqb, eqb-true, lt-ltb, ltb-false, ltb-true, ne_eqb}
use Rattle.std.specs.Prelude.{Option, Some, unwrap_or}
use Rattle.std.specs.Bool.{then_some}
use Rattle.laws.specs.Bounded.{any, first}
use Rattle.laws.specs.Connective.{both}
use Rattle.laws.proofs.BoundedLaws.{any_none}
use Rattle.laws.proofs.ConnectiveLaws.{both_left, both-no-right, both_right, known, true-false}
use Rattle.laws.proofs.FirstLaws.{first-hit, first-le, first-none}
use Rattle.texts.specs.Token.{is_integer, is_name, quoted_at, quoted_words, same_word, singleton_word, word_class}
use Rattle.text_rows.specs.Front.{NoOther, known_words}

-- w is known word i
abbrev is : List ℕ → ℕ → Bool
is w i = same_word (get_or known_words i []) w

-- the quoted words are the first nine
quoted-known : (w : List ℕ) → first (λ i. is w i) 9 ≡ quoted_at w
unfolding quoted_at first any
quoted-known w = refl

quoted-most : (w : List ℕ) → quoted_at w ≤ 9
unfolding quoted_at
quoted-most w = first-le (λ i. same_word (get_or quoted_words i []) w) 9

quoted-none : (w : List ℕ) → ((i : ℕ) → i < 9 → is w i ≡ false) → quoted_at w ≡ 9
quoted-none w f = sym (quoted-known w) ∙ first-none (λ i. is w i) 9 (any_none (λ i. is w i) 9 f)

class-quoted : (w : List ℕ) (k : ℕ) → quoted_at w ≡ k → k < 9 → 16 + k ≡ word_class w
unfolding word_class is_name
class-quoted w k e h = rw (ne_eqb (quoted_at w) 9 (λ q. absurd (omega arith)), e)

class-unquoted : (w : List ℕ) → quoted_at w ≡ 9 → word_class w ≡ cond (is w 9) 25 (cond (is_integer w) 26 27)
unfolding word_class is_name
class-unquoted w e = rw (eq-eqb (quoted_at w) 9 e)

module _ (w : List ℕ) (k : ℕ) (o : NoOther w k) {r : Bool} (q : r ≡ both (ltb k 10) (is w k)) where
  -- it is that word
  pub class-known : r ≡ true → (16 + k ≡ word_class w) × (16 + k ≤ 27)
  class-known t = ⊎_elim quoted singleton (known (ltb k 9))
    where
      here : is w k ≡ true
      here = both_right (ltb k 10) (is w k) (sym q ∙ t)

      within : k < 10
      within = ltb-true k 10 (both_left (ltb k 10) (is w k) (sym q ∙ t))

      none_before : (i : ℕ) → i < k → is w i ≡ false
      none_before i h = let l = within in let b : i < 10 = omega arith in o.no_other i b (λ e. absurd (omega arith))

      quoted : ltb k 9 ≡ true → (16 + k ≡ word_class w) × (16 + k ≤ 27)
      quoted b =
          let h = ltb-true k 9 b in
          (class-quoted w k (sym (quoted-known w) ∙ first-hit (λ i. is w i) 9 k h (any_none (λ i. is w i) k none_before) here) h, omega arith)

      singleton : ltb k 9 ≡ false → (16 + k ≡ word_class w) × (16 + k ≤ 27)
      singleton b =
          let h = ltb-false k 9 b in
          let l = within in
          let e : k ≡ 9 = omega arith in
          let n : quoted_at w ≡ 9 = quoted-none w (λ i j. none_before i (omega arith)) in
          (ap (λ (x : ℕ). 16 + x) e ∙ sym (class-unquoted w n ∙ ap (λ (b : Bool). cond b 25 (cond (is_integer w) 26 27)) (ap (is w) (sym e) ∙ here)), omega arith)

  -- it is none
  module _ (f : r ≡ false) where
    none : (i : ℕ) → i < 10 → is w i ≡ false
    none i h =
        ⊎_elim
        (λ b.
        let e = eqb-true i k b in
        let l : k < 10 = omega arith in
        ap (is w) e ∙ both-no-right (ltb k 10) (is w k) (sym q ∙ f) (lt-ltb k 10 l))
        (λ b. o.no_other i h (λ e. absurd (true-false (eq-eqb i k e) b))) (known (eqb i k))

    unknown : word_class w ≡ cond (is_integer w) 26 27
    unknown =
        let h : 9 < 10 = omega arith in
        class-unquoted w (quoted-none w (λ i j. none i (omega arith))) ∙ ap (λ (b : Bool). cond b 25 (cond (is_integer w) 26 27)) (none 9 h)

  -- as the code tells it
  pub class-asked : unwrap_or (then_some r (16 + k)) (cond (is_integer w) 26 27) ≡ word_class w
  class-asked = go r refl
    where
      go : (b : Bool) → r ≡ b → unwrap_or (then_some b (16 + k)) (cond (is_integer w) 26 27) ≡ word_class w
      go true t = (class-known t).0
      go false t = sym (unknown t)

  pub class-asked-most : (c : ℕ) → then_some r (16 + k) ≡ Some c → c ≤ 27
  class-asked-most c = go r
    where
      go : (b : Bool) → then_some b (16 + k) ≡ Some c → c ≤ 27
      go true e = let i : 16 + k ≡ c = ap (λ (p : Option ℕ). unwrap_or p c) e in let s = o.small in omega arith
      go false e = cc

pub class-unknown : (w : List ℕ) → NoOther w 10 → cond (is_integer w) 26 27 ≡ word_class w
unfolding both
class-unknown w o = sym (unknown w 10 o {r = false} refl refl)

pub class-least : (w : List ℕ) → 16 ≤ word_class w
unfolding word_class
class-least w = go (is_name w) (same_word singleton_word w) (is_integer w)
  where
    go : (a b c : Bool) → 16 ≤ cond a (cond b 25 (cond c 26 27)) (16 + quoted_at w)
    go true true c = omega arith
    go true false true = omega arith
    go true false false = omega arith
    go false b c = omega arith

pub class-most : (w : List ℕ) → word_class w ≤ 27
unfolding word_class
class-most w = go (is_name w) (same_word singleton_word w) (is_integer w)
  where
    go : (a b c : Bool) → cond a (cond b 25 (cond c 26 27)) (16 + quoted_at w) ≤ 27
    go true true c = omega arith
    go true false true = omega arith
    go true false false = omega arith
    go false b c = let m = quoted-most w in omega arith
