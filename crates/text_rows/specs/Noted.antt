-- What is known of the tokens that lead to a state, once one token more is passed.
-- Assumes nothing.
use Rattle.std.specs.Prelude.{◌+◌, ℕ, Bool, List, leb, drop, take, Option, None, Some}
use Rattle.std.specs.Bool.{then_some}
use Rattle.std.specs.Option.{option_or}
use Rattle.laws.specs.Bounded.{one}
use Rattle.laws.specs.Connective.{both}
use Rattle.text_rows.specs.declared.Noted.{Noted}
use Rattle.text_rows.specs.declared.Word.{Word}

-- a word: class 16 to 27
abbrev pub is_word_class : ℕ → Bool
is_word_class c = both (leb 16 c) (leb c 27)

-- the bytes of a word in s, or those of another where there is none
abbrev pub word_or : List ℕ → Option Word → List ℕ → List ℕ
word_or s None other = other
word_or s (Some w) other = take w.size (drop w.start s)

-- no token leads there
abbrev pub unpassed : Noted
unpassed = record { class = None; count = 0; first = None }

-- A token of that class leads there; it starts at that byte and is of so many bytes. The class stays where it is the first that
-- leads there, the word where it is the first word.
unfoldable pub noted : Noted → ℕ → ℕ → ℕ → Noted
noted n class at size =
    record {
      class = option_or n.class (Some class);
      count = n.count + one (is_word_class class);
      first = option_or n.first (then_some (is_word_class class) (record { start = at; size = size }));
    }
