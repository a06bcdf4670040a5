-- The token at the front of what is left of a text.
-- Assumes nothing.
use Rattle.std.specs.Prelude.{ℕ, ◌<◌, ◌≤◌, cond, false, List, [], ◌∷◌, ◌++◌, ◌≡◌, get_or}
use Rattle.files.specs.Name.{Name}
use Rattle.texts.specs.Token.{class_of, is_blank, quoted_words, same_word, singleton_word, size, token_at}
use Rattle.text_rows.specs.declared.tokens.Front.{Front}

-- the words that the grammar tells from others
abbrev pub known_words : List Name
known_words = quoted_words ++ (singleton_word ∷ [])

-- w is none of them but, it may be, word k
pub record NoOther (w : Name) (k : ℕ) : Type 0 where
  pub small : k ≤ 10
  pub no_other : (i : ℕ) → i < 10 → (i ≡ k → ⊥) → same_word (get_or known_words i []) w ≡ false

-- what is left behind the blanks at the front
unfoldable pub unblank : List ℕ → List ℕ
unblank [] = []
unblank (x ∷ s) = cond (is_blank x) (unblank s) (x ∷ s)

-- class and size of the token at the front, where no blank stands there
pub record Fronts (s : List ℕ) (f : Front) : Type 0 where
  pub class-is : f.class ≡ class_of (token_at s)
  pub class-small : f.class ≤ 28
  pub size_is : f.size ≡ size (token_at s)
