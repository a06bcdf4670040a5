-- The words of a text: none is empty, and they have name bytes alone.
-- Assumes nothing.
use Prim.Native.Nat.{◌-◌, ◌≤◌, suc, zero, ℕ}
use native.Mathlib.Omega.{arith}
use mathlib.Core.Bool.{Bool, cond, false, true}
use mathlib.Core.List.{List, [], ◌∷◌}
use mathlib.Core.Path.{◌≡◌, refl}
use lib.Dec.{ltb}
use lib.ListN.{get_or, length}
use borrow.Author.Tests.{le-leb}
use Rattle.files.specs.Name.{Name, name_byte, valid_name}
use Rattle.texts.specs.Token.{Token, is_blank, mark, mark_at, run, size, stray, token_at, tokens, tokens_after, word}
use Rattle.laws.proofs.BoundedLaws.{all_of}
use Rattle.laws.proofs.ConnectiveLaws.{both_of}
use Rattle.laws.proofs.EachLaws.{Each, each_at, each-cond}

abbrev NameByte : ℕ → Type 0
NameByte b = name_byte b ≡ true

pub record Spelled (w : Name) : Type 0 where
  pub not-empty : 1 ≤ length w
  pub name-bytes : Each NameByte w

-- where a token is a word, that word is spelled so
abbrev pub SpelledToken : Token → Type 0
SpelledToken (word w) = Spelled w
SpelledToken (mark i) = Unit
SpelledToken (stray b) = Unit

-- ---- a text's words

run-bytes : (s : List ℕ) → Each NameByte (run s)
unfolding run
run-bytes [] = tt
run-bytes (x ∷ s) = go (name_byte x) refl (run-bytes s)
  where
    go : (b : Bool) → name_byte x ≡ b → Each NameByte (run s) → Each NameByte (cond b (x ∷ run s) [])
    go true e f = (e, f)
    go false e f = tt

run-spelled : (x : ℕ) (s : List ℕ) → name_byte x ≡ true → Spelled (run (x ∷ s))
unfolding run
run-spelled x s e = rw e (record { not-empty = omega arith; name-bytes = (e, run-bytes s) })

token-spelled : (x : ℕ) (s : List ℕ) → SpelledToken (token_at (x ∷ s))
unfolding token_at
token-spelled x s = go (name_byte x) refl (ltb (mark_at (x ∷ s)) 16)
  where
    go : (b : Bool) → name_byte x ≡ b → (c : Bool) → SpelledToken (cond b (word (run (x ∷ s))) (cond c (mark (mark_at (x ∷ s))) (stray x)))
    go true e c = run-spelled x s e
    go false e true = tt
    go false e false = tt

after-spelled : (s : List ℕ) (n : ℕ) → Each SpelledToken (tokens_after s n)
unfolding tokens_after
after-spelled [] n = tt
after-spelled (x ∷ s) (suc n) = after-spelled s n
after-spelled (x ∷ s) zero =
    each-cond SpelledToken (is_blank x) (tokens_after s zero) (token_at (x ∷ s) ∷ tokens_after s (size (token_at (x ∷ s)) - 1)) (after-spelled s zero)
    (token-spelled x s, after-spelled s (size (token_at (x ∷ s)) - 1))

pub words-spelled : (s : List ℕ) → Each SpelledToken (tokens s)
unfolding tokens
words-spelled s = after-spelled s zero

-- ---- a short word is a name

pub spelled-valid : (w : Name) → Spelled w → length w ≤ 16 → valid_name w ≡ true
unfolding valid_name
spelled-valid w g l =
    both_of _ _ (both_of _ _ (le-leb 1 (length w) g.not-empty) (le-leb (length w) 16 l))
    (all_of (λ i. name_byte (get_or w i 0)) (length w) (each_at NameByte 0 w g.name-bytes))
