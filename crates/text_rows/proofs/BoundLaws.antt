-- A text has no more words than bytes.
-- Assumes nothing.
use Prim.Native.Nat.{ℕ, suc, zero, ◌-◌, ◌≤◌}
use native.Mathlib.Omega.{arith}
use mathlib.Core.Bool.{Bool, cond, false, true}
use mathlib.Core.List.{List, [], ◌∷◌}
use lib.Dec.{eqb}
use lib.ListN.{length}
use Rattle.laws.specs.Connective.{either}
use Rattle.texts.specs.Token.{Token, class_of, is_blank, mark, size, stray, token_at, tokens, tokens_after, word}
use Rattle.texts.specs.Table.{Symbol, next, row_from, symbol, word_if, words_for}
use Rattle.text_rows.specs.RowAt.{row_at}

module _ (a b c : ℕ) where
  -- the row has at most so many words
  abbrev Bounds : List Symbol → ℕ → Type 0
  Bounds row bytes = length (words_for a b c row) ≤ bytes

  bounded-none : (bytes : ℕ) → Bounds [] bytes
  unfolding words_for
  bounded-none bytes = omega arith

  bounded-one : (n bytes : ℕ) (t : Token) (row : List Symbol) → Bounds row bytes → Bounds (symbol n t ∷ row) (suc bytes)
  unfolding words_for
  bounded-one n bytes t row r = count t (either (eqb n a) (either (eqb n b) (eqb n c)))
    where
      count : (t : Token) (e : Bool) → length (word_if e t (words_for a b c row)) ≤ suc bytes
      count (word w) true = omega arith
      count (word w) false = omega arith
      count (mark i) e = omega arith
      count (stray y) e = omega arith

  -- the row ends, or goes on
  bounded-behind : (bytes : ℕ) (row : List Symbol) (ends : Bool) → Bounds row bytes → Bounds (cond ends [] row) bytes
  bounded-behind bytes row true r = bounded-none bytes
  bounded-behind bytes row false r = r

  bounded-from : (q : ℕ) (s : List ℕ) (n : ℕ) → Bounds (row_from q (tokens_after s n)) (length s)
  unfolding tokens_after row_from
  bounded-from q [] n = bounded-none 0
  bounded-from q (y ∷ s) (suc n) = let h = bounded-from q s n in omega arith
  bounded-from q (y ∷ s) zero = go (bounded-from q s zero) (bounded-from (next q (class_of (token_at (y ∷ s)))) s (size (token_at (y ∷ s)) - 1)) (is_blank y)
    where
      n : ℕ
      n = next q (class_of (token_at (y ∷ s)))

      ts : List Token
      ts = tokens_after s (size (token_at (y ∷ s)) - 1)

      go : Bounds (row_from q (tokens_after s zero)) (length s) → Bounds (row_from n ts) (length s) → (e : Bool)
          → Bounds (row_from q (cond e (tokens_after s zero) (token_at (y ∷ s) ∷ ts))) (suc (length s))
      go h k true = omega arith
      go h k false = bounded-one n (length s) (token_at (y ∷ s)) (cond (eqb n 3) [] (row_from n ts)) (bounded-behind (length s) (row_from n ts) (eqb n 3) k)

pub count-bound : (a b c : ℕ) (s : List ℕ) → length (words_for a b c (row_at s)) ≤ length s
unfolding row_at tokens
count-bound a b c s = bounded-from a b c 3 s zero
