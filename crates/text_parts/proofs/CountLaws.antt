-- How many words of a row lead to one of two states: the sum of both counts. None lead to one of three where none lead to each.
-- Assumes nothing.
use Prim.Native.Nat.{ℕ, ◌+◌, ◌≤◌}
use native.Mathlib.Omega.{arith}
use mathlib.Core.Bool.{Bool, ◌&&◌, false, true, true≢false}
use mathlib.Core.List.{List, [], ◌∷◌}
use mathlib.Core.Logic.{⊎_elim}
use mathlib.Core.Path.{◌≡◌, ◌∙◌, ap, refl, sym}
use lib.Dec.{eqb}
use lib.ListN.{get_or, length}
use borrow.Author.Tests.{eqb-true}
use Rattle.laws.specs.Connective.{both, either}
use Rattle.laws.proofs.ConnectiveLaws.{and_left, and_right, known}
use Rattle.files.specs.Name.{Name}
use Rattle.texts.specs.Token.{Token, mark, stray, word}
use Rattle.texts.specs.Table.{Symbol, word_if, words_for}
use Rattle.text_rows.specs.RowAt.{row_at}
use Rattle.text_rows.proofs.BoundLaws.{count-bound}

both-counts : (x y : Bool) → both x y ≡ false → (t : Token) → (ws us vs : List Name) → length ws ≡ length us + length vs
    → length (word_if (either x (either y y)) t ws) ≡ length (word_if (either x (either x x)) t us) + length (word_if (either y (either y y)) t vs)
unfolding either both
both-counts true true e (word w) ws us vs h = absurd (true≢false e)
both-counts true false e (word w) ws us vs h = omega arith
both-counts false true e (word w) ws us vs h = omega arith
both-counts false false e (word w) ws us vs h = omega arith
both-counts x y e (mark i) ws us vs h = h
both-counts x y e (stray b) ws us vs h = h

twelve-or-nineteen : (n : ℕ) → both (eqb n 12) (eqb n 19) ≡ false
unfolding both
twelve-or-nineteen n = ⊎_elim twelve other (known (eqb n 12))
  where
    twelve : eqb n 12 ≡ true → both (eqb n 12) (eqb n 19) ≡ false
    twelve e = ap (λ m. both (eqb m 12) (eqb m 19)) (eqb-true n 12 e)

    other : eqb n 12 ≡ false → both (eqb n 12) (eqb n 19) ≡ false
    other e = ap (λ b. both b (eqb n 19)) e

interfaces-counted : (row : List Symbol) → length (words_for 12 19 19 row) ≡ length (words_for 12 12 12 row) + length (words_for 19 19 19 row)
unfolding words_for
interfaces-counted [] = refl
interfaces-counted (s ∷ row) =
    both-counts (eqb s.state 12) (eqb s.state 19) (twelve-or-nineteen s.state) s.token
    (words_for 12 19 19 row) (words_for 12 12 12 row) (words_for 19 19 19 row) (interfaces-counted row)

-- as the code adds them
pub interfaces-count : (s : List ℕ) → (r m n : ℕ) → r ≡ m + n → m ≡ length (words_for 12 12 12 (row_at s)) → n ≡ length (words_for 19 19 19 (row_at s))
    → (r ≡ length (words_for 12 19 19 (row_at s))) × (r ≤ length s)
interfaces-count s r m n e a b =
    let h = interfaces-counted (row_at s) in
    let l = count-bound 12 19 19 s in
    (omega arith, omega arith)

-- ---- none of three

none-of : (x y z : Bool) (t : Token) (us vs ws rs : List Name) → (length us ≡ 0 → length vs ≡ 0 → length ws ≡ 0 → rs ≡ [])
    → length (word_if (either x (either x x)) t us) ≡ 0 → length (word_if (either y (either y y)) t vs) ≡ 0 → length (word_if (either z (either z z)) t ws) ≡ 0
    → word_if (either x (either y z)) t rs ≡ []
unfolding either
none-of true y z (word w) us vs ws rs f a b c = absurd (omega arith)
none-of false true z (word w) us vs ws rs f a b c = absurd (omega arith)
none-of false false true (word w) us vs ws rs f a b c = absurd (omega arith)
none-of false false false (word w) us vs ws rs f a b c = f a b c
none-of x y z (mark i) us vs ws rs f a b c = f a b c
none-of x y z (stray i) us vs ws rs f a b c = f a b c

no_words : (x y z : ℕ) (row : List Symbol) → length (words_for x x x row) ≡ 0 → length (words_for y y y row) ≡ 0 → length (words_for z z z row) ≡ 0
    → words_for x y z row ≡ []
unfolding words_for
no_words x y z [] a b c = refl
no_words x y z (s ∷ row) a b c =
    none-of (eqb s.state x) (eqb s.state y) (eqb s.state z) s.token (words_for x x x row) (words_for y y y row) (words_for z z z row) (words_for x y z row)
    (no_words x y z row) a b c

-- as the code asks for the three that names lead to
pub no_name : (row : List Symbol) {k m n : ℕ} → k ≡ length (words_for 8 8 8 row) → m ≡ length (words_for 17 17 17 row) → n ≡ length (words_for 21 21 21 row)
    → eqb k 0 && (eqb m 0 && eqb n 0) ≡ true → [] ≡ get_or (words_for 8 17 21 row) 0 []
no_name row {k} {m} {n} a b c e =
    let f = and_right (eqb k 0) (eqb m 0 && eqb n 0) e in
    let w : words_for 8 17 21 row ≡ [] = no_words 8 17 21 row
    (sym a ∙ eqb-true k 0 (and_left (eqb k 0) (eqb m 0 && eqb n 0) e)) (sym b ∙ eqb-true m 0 (and_left (eqb m 0) (eqb n 0) f)) (sym c ∙ eqb-true n 0 (and_right (eqb m 0) (eqb n 0) f)) in
    rw w
