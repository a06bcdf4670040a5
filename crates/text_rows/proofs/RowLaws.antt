-- Laws of the loops over the tokens of a text: what is asked of the unread rest r in state q, by its front token, is told there or
-- asked of what follows the token, in the state n that it leads to.
-- Assumes nothing.
use Prim.Native.Nat.{ℕ, suc, zero, ◌-◌, ◌<◌, ◌≤◌}
use native.Mathlib.Omega.{arith}
use mathlib.Core.Bool.{Bool, cond, false, not, true, ◌&&◌}
use mathlib.Core.List.{List, [], ◌∷◌}
use mathlib.Core.Path.{◌≡◌, ◌∙◌, ap, ap₂, refl, sym}
use lib.Dec.{eqb, ltb}
use lib.ListN.{get_or, length, length-drop, take}
use borrow.Author.Tests.{eq-eqb, eqb-true, ne_eqb}
use Rattle.laws.specs.Bounded.{one}
use Rattle.laws.specs.Connective.{both, either}
use Rattle.laws.proofs.ConnectiveLaws.{and-is-both, and_left, and_right, both_false, true-false}
use Rattle.texts.specs.Token.{Token, class_of, size, token_at, tokens}
use Rattle.texts.specs.Table.{Symbol, accepts, has_long_from, is_name_state, long_at, next, row_from, symbol, word_if, words_for}
use Rattle.text_rows.specs.declared.Passed.{Passed}
use Rattle.text_rows.specs.Front.{unblank}
use Rattle.text_rows.specs.Noted.{is_word_class}
use Rattle.text_rows.specs.Passes.{Passed_at}
use Rattle.text_rows.proofs.BlankLaws.{unblank-bare, unblank-most}
use Rattle.text_rows.proofs.TokenLaws.{long-front, size-least, tokens-end, tokens-step, tokens-unblank, word-passed, word-taken}

-- the table accepts the tokens, and none of them is a name over 16 bytes
abbrev pub accepted : ℕ → List Token → Bool
accepted q ts = both (accepts q ts) (not (has_long_from q ts))

-- the word is for one of three states
abbrev pub is_for : ℕ → ℕ → ℕ → ℕ → Bool
is_for n a b c = either (eqb n a) (either (eqb n b) (eqb n c))

-- ---- nothing is left

module _ (r : List ℕ) (q : ℕ) (none : unblank r ≡ []) where
  pub tokens-none : tokens r ≡ []
  tokens-none = sym (tokens-unblank r) ∙ ap tokens none ∙ tokens-end [] (omega arith)

  pub row-none : row_from q (tokens r) ≡ []
  unfolding row_from
  row-none = rw tokens-none

  pub word_end : (a b c i : ℕ) → [] ≡ get_or (words_for a b c (row_from q (tokens r))) i []
  unfolding words_for
  word_end a b c i = rw row-none

  pub accepted-end : eqb q 45 ≡ accepted q (tokens r)
  unfolding accepts has_long_from both
  accepted-end = rw tokens-none (go (eqb q 45))
    where
      go : (b : Bool) → b ≡ both b (not false)
      go true = refl
      go false = refl

-- ---- a token stands at the front

module _ {r : List ℕ} {q : ℕ} {p : Passed} (h : Passed_at r q p) where
  -- it stands there
  abbrev pub front : Token
  front = token_at p.start.now

  start-tokens : tokens p.start.now ≡ tokens r
  start-tokens = ap tokens h.start-is ∙ tokens-unblank r

  pub tokens-on : tokens r ≡ front ∷ tokens p.after.now
  tokens-on =
      sym start-tokens ∙ tokens-step p.start.now h.some (unblank-bare r p.start.now h.start-is)
      ∙ rw (h.after-is, h.tells.size_is)

  pub to-next : next q (class_of front) ≡ p.state.number
  to-next = sym (h.state-is ∙ ap (next q) h.tells.class-is)

  -- the row's first symbol
  pub row_on : row_from q (tokens r) ≡ symbol p.state.number (front) ∷ cond (eqb p.state.number 3) [] (row_from p.state.number (tokens p.after.now))
  unfolding row_from
  row_on = rw (tokens-on, to-next)

  -- ---- the words for one of three states

  module _ (a b c : ℕ) {w : Bool} (asked : w ≡ both (is_for p.state.number a b c) (is_word_class p.front.class)) where
    -- the row behind the token
    abbrev behind : List Symbol
    behind = cond (eqb p.state.number 3) [] (row_from p.state.number (tokens p.after.now))

    words-on : words_for a b c (row_from q (tokens r)) ≡ word_if (is_for p.state.number a b c) (front) (words_for a b c behind)
    unfolding words_for
    words-on = rw row_on

    asked_is : both (is_for p.state.number a b c) (is_word_class (class_of (front))) ≡ w
    asked_is = sym (asked ∙ ap (λ (k : ℕ). both (is_for p.state.number a b c) (is_word_class k)) h.tells.class-is)

    words-hit : w ≡ true → words_for a b c (row_from q (tokens r)) ≡ take p.front.size p.start.now ∷ words_for a b c behind
    words-hit t =
        words-on ∙ word-taken (is_for p.state.number a b c) p.start.now (words_for a b c behind) (asked_is ∙ t)
        ∙ ap (λ (k : ℕ). take k p.start.now ∷ words_for a b c behind) (sym h.tells.size_is)

    words-miss : w ≡ false → words_for a b c (row_from q (tokens r)) ≡ words_for a b c behind
    words-miss t = words-on ∙ word-passed (is_for p.state.number a b c) p.start.now (words_for a b c behind) (asked_is ∙ t)

    -- which one stands at i
    pub word-here : (i : ℕ) → w && eqb i 0 ≡ true → take p.front.size p.start.now ≡ get_or (words_for a b c (row_from q (tokens r))) i []
    word-here i e = rw (words-hit (and_left w (eqb i 0) e), eqb-true i 0 (and_right w (eqb i 0) e))

    module _ (i : ℕ) {j : ℕ} (e : w && eqb i 0 ≡ false) (k : j ≡ i - one w) where
      word_on : get_or (words_for a b c (row_from q (tokens r))) i [] ≡ get_or (words_for a b c behind) j []
      word_on = go w refl i e k
        where
          go : (v : Bool) → w ≡ v → (i : ℕ) → v && eqb i 0 ≡ false → j ≡ i - one v → get_or (words_for a b c (row_from q (tokens r))) i [] ≡ get_or (words_for a b c behind) j []
          go true t zero e k = absurd (true-false refl e)
          go true t (suc i) e k = let l : j ≡ i = omega arith in rw (words-hit t, l)
          go false t i e k = let l : j ≡ i = omega arith in rw (words-miss t, l)

      pub word_none : p.state.number ≡ 3 → [] ≡ get_or (words_for a b c (row_from q (tokens r))) i []
      unfolding words_for
      word_none t = sym (word_on ∙ rw (eq-eqb p.state.number 3 t))

      pub word_next : (p.state.number ≡ 3 → ⊥) → get_or (words_for a b c (row_from q (tokens r))) i [] ≡ get_or (words_for a b c (row_from p.state.number (tokens p.after.now))) j []
      word_next u = word_on ∙ rw (ne_eqb p.state.number 3 u)

  -- ---- accepted

  module _ {m : Bool} (named : m ≡ is_name_state p.state.number) where
    long-is : long_at p.state.number front ≡ m && ltb 16 p.front.size
    long-is = long-front p.state.number p.start.now ∙ rw (named, h.tells.size_is) (sym (and-is-both (is_name_state p.state.number) (ltb 16 (size front))))

    accepted-on : accepted q (tokens r) ≡ both (accepts p.state.number (tokens p.after.now)) (not (either (m && ltb 16 p.front.size) (has_long_from p.state.number (tokens p.after.now))))
    unfolding accepts has_long_from
    accepted-on =
        let a : accepts q (tokens r) ≡ accepts p.state.number (tokens p.after.now) = ap (accepts q) tokens-on ∙ ap (λ (k : ℕ). accepts k (tokens p.after.now)) to-next in
        let l : has_long_from q (tokens r) ≡ either (m && ltb 16 p.front.size) (has_long_from p.state.number (tokens p.after.now)) = rw (tokens-on, to-next, long-is) in
        ap₂ (λ (x y : Bool). both x (not y)) a l

    pub accepted-long : m && ltb 16 p.front.size ≡ true → false ≡ accepted q (tokens r)
    unfolding either
    accepted-long t = sym (accepted-on ∙ rw t (both_false (accepts p.state.number (tokens p.after.now))))

    pub accepted-next : m && ltb 16 p.front.size ≡ false → accepted q (tokens r) ≡ accepted p.state.number (tokens p.after.now)
    unfolding either
    accepted-next t = accepted-on ∙ rw t

  -- ---- what follows the token

  pub rest-shorter : length p.after.now < length r
  rest-shorter =
      let a : length p.start.now ≤ length r = rw h.start-is (unblank-most r) in
      let b : length p.after.now ≡ length p.start.now - p.front.size = rw h.after-is (length-drop p.front.size p.start.now) in
      let c = size-least p.start.now h.some in
      let d = h.tells.size_is in
      omega arith
