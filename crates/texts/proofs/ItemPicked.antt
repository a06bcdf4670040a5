-- What is read from the tokens of some states: the words among them, and the class of the first.
-- Assumes nothing.
use Prim.Native.Nat.{ℕ}
use mathlib.Core.Bool.{Bool, true}
use mathlib.Core.List.{List, [], ◌++◌, ◌∷◌, append-nil, map}
use mathlib.Core.Path.{◌∙◌, ◌≡◌, ap, fun_ext, refl}
use lib.Dec.{eqb, ltb}
use Rattle.files.specs.Name.{Name}
use Rattle.texts.specs.Grammar.{Item}
use Rattle.texts.specs.Token.{Token, class_of, is_name, word}
use Rattle.texts.proofs.ItemPicks.{item-picked, item_pick}
use Rattle.texts.proofs.ItemRow.{row_of}
use Rattle.texts.proofs.RowLaws.{first_class, one_of, picks, words}
use Rattle.texts.proofs.TokenClassLaws.{name-class}

-- the tokens of some states
abbrev pub Picked : Type 0
Picked = (ℕ → Bool) → List Token

abbrev pub words_by : ℕ → ℕ → ℕ → Picked → List Name
words_by a b c f = words (f (one_of a b c))

abbrev pub class_by : ℕ → Picked → ℕ
class_by q f = first_class (f (λ n. eqb n q))

abbrev pub passes_by : ℕ → Picked → Bool
passes_by q f = ltb (class_by q f) 29

pub picked_all : (i : Item) → (λ p. picks p (row_of i)) ≡ item_pick i
picked_all i = fun_ext (λ p. item-picked p i)

-- ---- words

pub words-all : {A : Type 0} (f : A → Name) (xs : List A) → words (map (λ x. word (f x)) xs ++ []) ≡ map f xs
unfolding words
words-all f [] = refl
words-all f (x ∷ xs) = ap {B = List Name} (λ ws. f x ∷ ws) (words-all f xs)

pub words-front : (ws : List Name) (ts : List Token) → words (map word ws ++ ts) ≡ ws ++ words ts
unfolding words
words-front [] ts = refl
words-front (w ∷ ws) ts = ap {B = List Name} (λ ws. w ∷ ws) (words-front ws ts)

pub words_same : (ws : List Name) → words (map word ws ++ []) ≡ ws
unfolding words
words_same ws = words-front ws [] ∙ append-nil ws

pub word-class : (w : Name) → is_name w ≡ true → ltb (class_of (word w)) 29 ≡ true
unfolding class_of
word-class w h = name-class (λ c. ltb c 29 ≡ true) refl refl refl w h
