-- Each mark among the tokens of a text is one of the sixteen.
-- Assumes nothing.
use Prim.Native.Nat.{◌-◌, suc, zero, ℕ}
use mathlib.Core.Bool.{Bool, cond, false, true}
use mathlib.Core.List.{List, [], ◌∷◌}
use mathlib.Core.Path.{◌≡◌, refl}
use lib.Dec.{ltb}
use lib.ListN.{get_or}
use Rattle.files.specs.Name.{name_byte}
use Rattle.texts.specs.Table.{marks_below}
use Rattle.texts.specs.Token.{Token, is_blank, mark, mark_at, run, size, stray, token_at, tokens, tokens_after, word}
use Rattle.laws.proofs.ConnectiveLaws.{both_left, both_of, both_right}
use Rattle.texts.proofs.TokenClassLaws.{mark_below}

pub first_below : (t : Token) (ts : List Token) → marks_below (t ∷ ts) ≡ true → mark_below t ≡ true
unfolding marks_below mark_below
first_below (word w) ts h = refl
first_below (mark i) ts h = both_left _ _ h
first_below (stray b) ts h = refl

pub others_below : (t : Token) (ts : List Token) → marks_below (t ∷ ts) ≡ true → marks_below ts ≡ true
unfolding marks_below
others_below (word w) ts h = h
others_below (mark i) ts h = both_right (ltb i 16) (marks_below ts) h
others_below (stray b) ts h = h

one_more : (t : Token) (ts : List Token) → mark_below t ≡ true → marks_below ts ≡ true → marks_below (t ∷ ts) ≡ true
unfolding marks_below mark_below
one_more (word w) ts h k = k
one_more (mark i) ts h k = both_of _ _ h k
one_more (stray b) ts h k = k

token-meant : (s : List ℕ) → mark_below (token_at s) ≡ true
unfolding token_at mark_below
token-meant s = go (name_byte (get_or s 0 0)) (ltb (mark_at s) 16) refl
  where
    go : (a b : Bool) → ltb (mark_at s) 16 ≡ b → mark_below (cond a (word (run s)) (cond b (mark (mark_at s)) (stray (get_or s 0 0)))) ≡ true
    go true b e = refl
    go false true e = e
    go false false e = refl

after-below : (s : List ℕ) (n : ℕ) → marks_below (tokens_after s n) ≡ true
unfolding tokens_after marks_below
after-below [] n = refl
after-below (x ∷ s) (suc n) = after-below s n
after-below (x ∷ s) zero = go (is_blank x) (after-below s zero) (after-below s (size (token_at (x ∷ s)) - 1))
  where
    go : (b : Bool) → marks_below (tokens_after s zero) ≡ true → marks_below (tokens_after s (size (token_at (x ∷ s)) - 1)) ≡ true
        → marks_below (cond b (tokens_after s zero) (token_at (x ∷ s) ∷ tokens_after s (size (token_at (x ∷ s)) - 1))) ≡ true
    go true h k = h
    go false h k = one_more (token_at (x ∷ s)) (tokens_after s (size (token_at (x ∷ s)) - 1)) (token-meant (x ∷ s)) k

pub tokens-below : (s : List ℕ) → marks_below (tokens s) ≡ true
unfolding tokens
tokens-below s = after-below s zero
