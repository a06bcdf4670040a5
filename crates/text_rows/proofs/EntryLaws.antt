-- What is known of one state, as symbols of a row are passed one by one: what it says with what the symbols that are left say is what
-- the whole row says.
-- Assumes nothing.
use Rattle.std.specs.Prelude.{ℕ, ◌+◌, ◌≤◌, Bool, cond, false, true, List, [], ◌∷◌, ◌≡◌, eqb, ltb, drop, get_or, length, take, Option, None, Some, unwrap_or}
use Rattle.std.specs.Bool.{then_some}
use Rattle.std.specs.Option.{is_some, option_or}
use Rattle.std.proofs.Common.{◌∙◌, ap, refl, sym, add-zero, arith}
use borrow.Author.Tests.{lt-ltb}
use Rattle.laws.specs.Bounded.{one}
use Rattle.laws.specs.Connective.{either}
use Rattle.files.specs.Name.{Name}
use Rattle.texts.specs.Token.{Token, class_of, mark, stray, word}
use Rattle.texts.specs.Table.{Symbol, class_for, symbol, word_if, words_for}
use Rattle.text_rows.specs.Noted.{is_word_class, noted, unpassed, word_or}
use Rattle.text_rows.specs.declared.Noted.{Noted}
use Rattle.text_rows.specs.declared.Word.{Word}

-- what is known of state x in the text s, with the symbols that are left
pub record Entry (s : List ℕ) (whole left : List Symbol) (x : ℕ) (n : Noted) : Type 0 where
  pub class-is : unwrap_or n.class (class_for x left) ≡ class_for x whole
  pub class-small : (c : ℕ) → n.class ≡ Some c → c ≤ 28
  pub count-is : n.count + length (words_for x x x left) ≡ length (words_for x x x whole)
  pub found-is : is_some n.first ≡ ltb 0 n.count
  pub word-is : word_or s n.first (get_or (words_for x x x left) 0 []) ≡ get_or (words_for x x x whole) 0 []

-- ---- no symbol is passed

pub entry-begin : (s : List ℕ) (whole : List Symbol) (x : ℕ) → Entry s whole whole x unpassed
entry-begin s whole x = record { class-is = refl; class-small = λ c e. cc; count-is = omega arith; found-is = refl; word-is = refl }

-- ---- a symbol of another state is passed

word-not : (t : Token) (ws : List Name) → word_if false t ws ≡ ws
word-not (word w) ws = refl
word-not (mark i) ws = refl
word-not (stray b) ws = refl

module _ {s : List ℕ} {whole left : List Symbol} {x n : ℕ} {t : Token} {m : Noted} where
  pub entry_other : eqb n x ≡ false → Entry s whole (symbol n t ∷ left) x m → Entry s whole left x m
  unfolding class_for words_for either
  entry_other d e =
      let c : class_for x (symbol n t ∷ left) ≡ class_for x left = rw d in
      let w : words_for x x x (symbol n t ∷ left) ≡ words_for x x x left = rw d (word-not t (words_for x x x left)) in
      record {
        class-is = ap (λ (k : ℕ). unwrap_or m.class k) (sym c) ∙ e.class-is;
        class-small = e.class-small;
        count-is = ap (λ (ws : List Name). m.count + length ws) (sym w) ∙ e.count-is;
        found-is = e.found-is;
        word-is = ap (λ (ws : List Name). word_or s m.first (get_or ws 0 [])) (sym w) ∙ e.word-is;
      }

-- ---- a symbol of the state itself is passed

-- class, place and size of the token t in s
pub record Stands (s : List ℕ) (t : Token) (class at size : ℕ) : Type 0 where
  pub class-is : class ≡ class_of t
  pub class-small : class ≤ 28
  pub word-is : (ws : List Name) → word_if true t ws ≡ cond (is_word_class class) (take size (drop at s) ∷ ws) ws

module _ {s : List ℕ} {whole left : List Symbol} {x n k at z : ℕ} {t : Token} {m : Noted} where
  pub entry-own : eqb n x ≡ true → Stands s t k at z → Entry s whole (symbol n t ∷ left) x m → Entry s whole left x (noted m k at z)
  unfolding class_for words_for either noted
  entry-own d h e =
      record {
        class-is = classes m.class (ap (λ (y : ℕ). unwrap_or m.class y) (sym c) ∙ e.class-is);
        class-small = small m.class e.class-small;
        count-is = counts (is_word_class k) (ap (λ (ws : List Name). m.count + length ws) (sym w) ∙ e.count-is);
        found-is = found m.first (is_word_class k) e.found-is;
        word-is = words m.first (is_word_class k) (ap (λ (ws : List Name). word_or s m.first (get_or ws 0 [])) (sym w) ∙ e.word-is);
      }
    where
      rest : List Name
      rest = words_for x x x left

      c : class_for x (symbol n t ∷ left) ≡ k
      c = rw d (sym h.class-is)

      w : words_for x x x (symbol n t ∷ left) ≡ cond (is_word_class k) (take z (drop at s) ∷ rest) rest
      w = rw d (h.word-is rest)

      classes : (o : Option ℕ) → unwrap_or o k ≡ class_for x whole → unwrap_or (option_or o (Some k)) (class_for x left) ≡ class_for x whole
      classes None y = y
      classes (Some v) y = y

      small : (o : Option ℕ) → ((c : ℕ) → o ≡ Some c → c ≤ 28) → (c : ℕ) → option_or o (Some k) ≡ Some c → c ≤ 28
      small None f c e = let q : k ≡ c = ap (λ (p : Option ℕ). unwrap_or p k) e in let l = h.class-small in omega arith
      small (Some v) f c e = f c e

      counts : (b : Bool) → m.count + length (cond b (take z (drop at s) ∷ rest) rest) ≡ length (words_for x x x whole)
          → m.count + one b + length rest ≡ length (words_for x x x whole)
      counts true y = omega arith
      counts false y = omega arith

      found : (o : Option Word) (a : Bool) → is_some o ≡ ltb 0 m.count
          → is_some (option_or o (then_some a (record { start = at; size = z }))) ≡ ltb 0 (m.count + one a)
      found None true y = sym (lt-ltb 0 (m.count + 1) (omega arith))
      found None false y = y ∙ ap (ltb 0) (sym (add-zero m.count))
      found (Some v) true y = sym (lt-ltb 0 (m.count + 1) (omega arith))
      found (Some v) false y = y ∙ ap (ltb 0) (sym (add-zero m.count))

      words : (o : Option Word) (a : Bool) → word_or s o (get_or (cond a (take z (drop at s) ∷ rest) rest) 0 []) ≡ get_or (words_for x x x whole) 0 []
          → word_or s (option_or o (then_some a (record { start = at; size = z }))) (get_or rest 0 []) ≡ get_or (words_for x x x whole) 0 []
      words None true y = y
      words None false y = y
      words (Some v) a y = y

-- ---- all symbols are passed

module _ {s : List ℕ} {whole : List Symbol} {x : ℕ} {n : Noted} (e : Entry s whole [] x n) where
  pub entry-class : unwrap_or n.class 29 ≡ class_for x whole
  unfolding class_for
  entry-class = e.class-is

  pub entry-count : n.count ≡ length (words_for x x x whole)
  unfolding words_for
  entry-count = sym (add-zero n.count) ∙ e.count-is

  pub entry-found : is_some n.first ≡ ltb 0 (length (words_for x x x whole))
  entry-found = e.found-is ∙ ap (ltb 0) entry-count

  pub entry-word : word_or s n.first [] ≡ get_or (words_for x x x whole) 0 []
  unfolding words_for
  entry-word = e.word-is
