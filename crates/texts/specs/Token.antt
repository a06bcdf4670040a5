-- 02 1/12: a text as a row of words and marks.
-- A text is a list of bytes.
-- Assumes nothing.
use Rattle.std.specs.Prelude.{◌+◌, ◌-◌, suc, zero, ℕ, Bool, ◌&&◌, cond, false, true, List, [], ◌∷◌, eqb, leb, ltb, get_or, length}
use Rattle.laws.specs.Bounded.{all, first}
use Rattle.laws.specs.Connective.{both, either}
use Rattle.laws.specs.Order.{is_equal, order}
use Rattle.files.specs.Name.{Name, name_byte}

-- a word, a mark by its place in `marks`, or a byte that is neither: it stands in no text of the grammar
pub data Token : Type 0 where
  word : Name → Token
  mark : ℕ → Token
  stray : ℕ → Token

-- "blanks, tabs and line ends (0x0A, 0x0D)"
unfoldable pub is_blank : ℕ → Bool
is_blank b = either (eqb b 0x20) (either (eqb b 0x09) (either (eqb b 0x0A) (eqb b 0x0D)))

-- "marks (longest first)": <-> -> <- -- << >> .. { } ; , ( ) [ ] *
abbrev pub marks : List (List ℕ)
marks =
    (0x3C ∷ 0x2D ∷ 0x3E ∷ [])
    ∷ (0x2D ∷ 0x3E ∷ []) ∷ (0x3C ∷ 0x2D ∷ []) ∷ (0x2D ∷ 0x2D ∷ []) ∷ (0x3C ∷ 0x3C ∷ []) ∷ (0x3E ∷ 0x3E ∷ []) ∷ (0x2E ∷ 0x2E ∷ [])
    ∷ (0x7B ∷ []) ∷ (0x7D ∷ []) ∷ (0x3B ∷ []) ∷ (0x2C ∷ []) ∷ (0x28 ∷ []) ∷ (0x29 ∷ []) ∷ (0x5B ∷ []) ∷ (0x5D ∷ []) ∷ (0x2A ∷ []) ∷ []

-- the first list stands at the front of the second
unfoldable pub starts : List ℕ → List ℕ → Bool
starts [] s = true
starts (x ∷ w) [] = false
starts (x ∷ w) (y ∷ s) = eqb x y && starts w s

-- "longest runs of name bytes": the one at the front
unfoldable pub run : List ℕ → Name
run [] = []
run (x ∷ s) = cond (name_byte x) (x ∷ run s) []

-- the first of the marks that stands at the front, or 16
unfoldable pub mark_at : List ℕ → ℕ
mark_at s = first (λ i. starts (get_or marks i []) s) 16

-- what stands at the front, where that is no blank
unfoldable pub token_at : List ℕ → Token
token_at s = cond (name_byte (get_or s 0 0)) (word (run s)) (cond (ltb (mark_at s) 16) (mark (mark_at s)) (stray (get_or s 0 0)))

-- of how many bytes it is
unfoldable pub size : Token → ℕ
size (word w) = length w
size (mark i) = length (get_or marks i [])
size (stray b) = 1

-- the tokens of a text behind its first n bytes
unfoldable pub tokens_after : List ℕ → ℕ → List Token
tokens_after [] n = []
tokens_after (x ∷ s) (suc n) = tokens_after s n
tokens_after (x ∷ s) zero = cond (is_blank x) (tokens_after s zero) (token_at (x ∷ s) ∷ tokens_after s (size (token_at (x ∷ s)) - 1))

-- "Words .. and marks .. are parted by any number of blanks, tabs and line ends"
unfoldable pub tokens : List ℕ → List Token
tokens s = tokens_after s zero

-- ---- words

-- "a quoted word of the listing is not a name": classdiagram, class, extends, implements, interface, enum, association,
-- composition, abstract
abbrev pub quoted_words : List Name
quoted_words =
    (0x63 ∷ 0x6C ∷ 0x61 ∷ 0x73 ∷ 0x73 ∷ 0x64 ∷ 0x69 ∷ 0x61 ∷ 0x67 ∷ 0x72 ∷ 0x61 ∷ 0x6D ∷ [])
    ∷ (0x63 ∷ 0x6C ∷ 0x61 ∷ 0x73 ∷ 0x73 ∷ [])
    ∷ (0x65 ∷ 0x78 ∷ 0x74 ∷ 0x65 ∷ 0x6E ∷ 0x64 ∷ 0x73 ∷ [])
    ∷ (0x69 ∷ 0x6D ∷ 0x70 ∷ 0x6C ∷ 0x65 ∷ 0x6D ∷ 0x65 ∷ 0x6E ∷ 0x74 ∷ 0x73 ∷ [])
    ∷ (0x69 ∷ 0x6E ∷ 0x74 ∷ 0x65 ∷ 0x72 ∷ 0x66 ∷ 0x61 ∷ 0x63 ∷ 0x65 ∷ [])
    ∷ (0x65 ∷ 0x6E ∷ 0x75 ∷ 0x6D ∷ [])
    ∷ (0x61 ∷ 0x73 ∷ 0x73 ∷ 0x6F ∷ 0x63 ∷ 0x69 ∷ 0x61 ∷ 0x74 ∷ 0x69 ∷ 0x6F ∷ 0x6E ∷ [])
    ∷ (0x63 ∷ 0x6F ∷ 0x6D ∷ 0x70 ∷ 0x6F ∷ 0x73 ∷ 0x69 ∷ 0x74 ∷ 0x69 ∷ 0x6F ∷ 0x6E ∷ [])
    ∷ (0x61 ∷ 0x62 ∷ 0x73 ∷ 0x74 ∷ 0x72 ∷ 0x61 ∷ 0x63 ∷ 0x74 ∷ []) ∷ []

-- "singleton", which the listing does not quote
abbrev pub singleton_word : Name
singleton_word = 0x73 ∷ 0x69 ∷ 0x6E ∷ 0x67 ∷ 0x6C ∷ 0x65 ∷ 0x74 ∷ 0x6F ∷ 0x6E ∷ []

-- words compare byte for byte
unfoldable pub same_word : Name → Name → Bool
same_word v w = is_equal (order v w)

-- the place of a word among the quoted ones, or 9
unfoldable pub quoted_at : Name → ℕ
quoted_at w = first (λ i. same_word (get_or quoted_words i []) w) 9

-- `is_name` and `is_integer` hold of the empty word too, which no text has (proofs/SpellingLaws, `words-spelled`)
unfoldable pub is_name : Name → Bool
is_name w = eqb (quoted_at w) 9

-- "An integer is a run of digits."
unfoldable pub is_digit : ℕ → Bool
is_digit b = both (leb 0x30 b) (leb b 0x39)

unfoldable pub is_integer : Name → Bool
is_integer w = all (λ i. is_digit (get_or w i 0)) (length w)

-- ---- classes: what the grammar tells of a token. Marks 0 to 15, quoted words 16 to 24, "singleton" 25, integers 26, other
-- words 27, strays 28.
unfoldable pub word_class : Name → ℕ
word_class w = cond (is_name w) (cond (same_word singleton_word w) 25 (cond (is_integer w) 26 27)) (16 + quoted_at w)

unfoldable pub class_of : Token → ℕ
class_of (word w) = word_class w
class_of (mark i) = i
class_of (stray b) = 28
