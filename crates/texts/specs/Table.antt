-- 02 1/12: the grammar as a table: the rows of tokens that it has are those of a finite automaton, and the state that a word leads
-- to says what the word is for.
-- These are the rows of Grammar.antt: each tree's row is accepted (proofs/GrammarLaws, `tree-accepts`), and each accepted row has a tree
-- (proofs/ConverseLaws, `accepts-tree`).
-- Assumes nothing.
use Rattle.std.specs.Prelude.{ℕ, Bool, cond, false, true, List, [], ◌∷◌, eqb, ltb, get_or, length}
use Rattle.laws.specs.Bounded.{any}
use Rattle.laws.specs.Connective.{both, either}
use Rattle.files.specs.Diagram.{Limits, at_most, no_limit}
use Rattle.files.specs.Name.{Name}
use Rattle.texts.specs.Declaration.{Declaration, DeclaredEnd, lowered, no_limits, value}
use Rattle.texts.specs.TextChecks.{is_long}
use Rattle.texts.specs.Token.{Token, class_of, mark, stray, word}

-- a token of that class leads to the state `next`
pub record Edge : Type 0 where
  pub class : ℕ
  pub next : ℕ

abbrev pub edge : ℕ → ℕ → Edge
edge c n = record { class = c; next = n }

-- a name leads to the state n: "singleton", digits, any other word
abbrev pub name : ℕ → List Edge → List Edge
name n es = edge 25 n ∷ edge 26 n ∷ edge 27 n ∷ es

-- the edges of each state; a comment says what may come
abbrev pub table : List (List Edge)
table =
    (edge 16 1 ∷ []) ∷  -- 0: start
    (name 2 []) ∷  -- 1: the diagram's name
    (edge 7 3 ∷ []) ∷  -- 2
    (edge 8 45 ∷ edge 17 7 ∷ edge 24 6 ∷ edge 4 4 ∷ edge 20 16 ∷ edge 21 20 ∷ edge 22 25 ∷ edge 23 25 ∷ []) ∷  -- 3: between declarations
    (edge 25 5 ∷ []) ∷  -- 4: stereotype
    (edge 5 6 ∷ []) ∷  -- 5
    (edge 17 7 ∷ []) ∷  -- 6
    (name 8 []) ∷  -- 7: a class's name
    (edge 18 9 ∷ edge 19 11 ∷ edge 9 3 ∷ edge 7 13 ∷ []) ∷  -- 8
    (name 10 []) ∷  -- 9: a superclass
    (edge 10 9 ∷ edge 19 11 ∷ edge 9 3 ∷ edge 7 13 ∷ []) ∷  -- 10
    (name 12 []) ∷  -- 11: a class's superinterface
    (edge 10 11 ∷ edge 9 3 ∷ edge 7 13 ∷ []) ∷  -- 12
    (edge 8 3 ∷ name 14 []) ∷  -- 13: an attribute's type
    (name 15 []) ∷  -- 14: an attribute's name
    (edge 9 13 ∷ []) ∷  -- 15
    (name 17 []) ∷  -- 16: an interface's name
    (edge 18 18 ∷ edge 9 3 ∷ []) ∷  -- 17
    (name 19 []) ∷  -- 18: an interface's superinterface
    (edge 10 18 ∷ edge 9 3 ∷ []) ∷  -- 19
    (name 21 []) ∷  -- 20: an enumeration's name
    (edge 9 3 ∷ edge 7 22 ∷ []) ∷  -- 21
    (name 23 []) ∷  -- 22: a constant
    (edge 10 22 ∷ edge 9 24 ∷ []) ∷  -- 23
    (edge 8 3 ∷ []) ∷  -- 24
    (edge 13 26 ∷ name 31 []) ∷  -- 25: an association's left end
    (edge 15 29 ∷ edge 26 27 ∷ []) ∷  -- 26: its cardinality
    (edge 14 30 ∷ edge 6 28 ∷ []) ∷  -- 27
    (edge 26 29 ∷ edge 15 29 ∷ []) ∷  -- 28
    (edge 14 30 ∷ []) ∷  -- 29
    (name 31 []) ∷  -- 30: its type
    (edge 11 32 ∷ edge 1 35 ∷ edge 2 35 ∷ edge 0 35 ∷ edge 3 35 ∷ []) ∷  -- 31
    (name 33 []) ∷  -- 32: its role
    (edge 12 34 ∷ []) ∷  -- 33
    (edge 1 35 ∷ edge 2 35 ∷ edge 0 35 ∷ edge 3 35 ∷ []) ∷  -- 34
    (edge 11 36 ∷ name 39 []) ∷  -- 35: the right end
    (name 37 []) ∷  -- 36: its role
    (edge 12 38 ∷ []) ∷  -- 37
    (name 39 []) ∷  -- 38: its type
    (edge 13 40 ∷ edge 9 3 ∷ []) ∷  -- 39
    (edge 15 43 ∷ edge 26 41 ∷ []) ∷  -- 40: its cardinality
    (edge 14 44 ∷ edge 6 42 ∷ []) ∷  -- 41
    (edge 26 43 ∷ edge 15 43 ∷ []) ∷  -- 42
    (edge 14 44 ∷ []) ∷  -- 43
    (edge 9 3 ∷ []) ∷  -- 44
    ([]) ∷  -- 45: the end
    []

unfoldable pub lookup : List Edge → ℕ → ℕ
lookup [] c = 46
lookup (e ∷ es) c = cond (eqb e.class c) e.next (lookup es c)

-- the state that a token of class c leads to from q; 46 is outside the grammar, and nothing leads out of it
unfoldable pub next : ℕ → ℕ → ℕ
next q c = lookup (get_or table q []) c

unfoldable pub accepts : ℕ → List Token → Bool
accepts q [] = eqb q 45
accepts q (t ∷ ts) = accepts (next q (class_of t)) ts

-- each mark is one of the sixteen
unfoldable pub marks_below : List Token → Bool
marks_below [] = true
marks_below (word w ∷ ts) = marks_below ts
marks_below (mark i ∷ ts) = both (ltb i 16) (marks_below ts)
marks_below (stray b ∷ ts) = marks_below ts

-- ---- names

-- the states that a name leads to
abbrev pub name_states : List ℕ
name_states = 2 ∷ 8 ∷ 10 ∷ 12 ∷ 14 ∷ 15 ∷ 17 ∷ 19 ∷ 21 ∷ 23 ∷ 31 ∷ 33 ∷ 37 ∷ 39 ∷ []

unfoldable pub is_name_state : ℕ → Bool
is_name_state q = any (λ i. eqb (get_or name_states i 0) q) 14

-- a token that leads to the state q is a name over 16 bytes
unfoldable pub long_at : ℕ → Token → Bool
long_at q (word w) = both (is_name_state q) (is_long w)
long_at q (mark i) = false
long_at q (stray b) = false

unfoldable pub has_long_from : ℕ → List Token → Bool
has_long_from q [] = false
has_long_from q (t ∷ ts) = either (long_at (next q (class_of t)) t) (has_long_from (next q (class_of t)) ts)

-- ---- declarations

-- a token and the state that it leads to
pub record Symbol : Type 0 where
  pub state : ℕ
  pub token : Token

abbrev pub symbol : ℕ → Token → Symbol
symbol q t = record { state = q; token = t }

-- the symbols from state q on, up to the first of state 3
unfoldable pub row_from : ℕ → List Token → List Symbol
row_from q [] = []
row_from q (t ∷ ts) =
    let n = next q (class_of t) in
    symbol n t ∷ cond (eqb n 3) [] (row_from n ts)

abbrev pub onto : Symbol → List (List Symbol) → List (List Symbol)
onto s [] = []
onto s (r ∷ rs) = (s ∷ r) ∷ rs

-- all such rows; what stands behind the last symbol of state 3 is none
unfoldable pub rows_from : ℕ → List Token → List (List Symbol)
rows_from q [] = []
rows_from q (t ∷ ts) =
    let n = next q (class_of t) in
    cond (eqb n 3) ((symbol n t ∷ []) ∷ rows_from n ts) (onto (symbol n t) (rows_from n ts))

-- the words of a row that lead to one of three states
abbrev pub word_if : Bool → Token → List Name → List Name
word_if b (word w) ws = cond b (w ∷ ws) ws
word_if b (mark i) ws = ws
word_if b (stray x) ws = ws

unfoldable pub words_for : ℕ → ℕ → ℕ → List Symbol → List Name
words_for a b c [] = []
words_for a b c (s ∷ row) = word_if (either (eqb s.state a) (either (eqb s.state b) (eqb s.state c))) s.token (words_for a b c row)

-- the class of the first token of a row that leads to the state q, or 29
unfoldable pub class_for : ℕ → List Symbol → ℕ
class_for q [] = 29
class_for q (s ∷ row) = cond (eqb s.state q) (class_of s.token) (class_for q row)

unfoldable pub passes : ℕ → List Symbol → Bool
passes q row = ltb (class_for q row) 29

unfoldable pub what_in : List Symbol → ℕ
what_in row =
    cond (passes 8 row) (cond (passes 4 row) 3 (cond (passes 6 row) 1 0))
    (cond (passes 17 row) 2
    (cond (passes 21 row) 4
    (cond (passes 25 row) (cond (eqb (class_for 25 row) 23) 6 5) 7)))

unfoldable pub arrow_in : ℕ → ℕ
arrow_in c = cond (eqb c 0) 3 (cond (eqb c 1) 1 (cond (eqb c 2) 2 (cond (eqb c 3) 4 0)))

-- an end's limits: the low integer, whether ".." stands, the high integer
unfoldable pub limits_in : List Name → Bool → List Name → Limits
limits_in lows dots ups =
    cond (eqb (length lows) 0) no_limits
    (record {
      low = value (get_or lows 0 []);
      up = cond dots (cond (eqb (length ups) 0) no_limit (at_most (value (get_or ups 0 [])))) (at_most (value (get_or lows 0 [])));
    })

unfoldable pub role_in : List Name → Name → Name
role_in roles type = cond (eqb (length roles) 0) (lowered type) (get_or roles 0 [])

-- an end: the states of its low integer, of "..", of its high integer, of its type and of its role
unfoldable pub end_for : ℕ → ℕ → ℕ → ℕ → ℕ → List Symbol → DeclaredEnd
end_for low dots up type role row =
    record {
      limits = limits_in (words_for low low low row) (passes dots row) (words_for up up up row);
      type = get_or (words_for type type type row) 0 [];
      role = role_in (words_for role role role row) (get_or (words_for type type type row) 0 []);
    }

unfoldable pub declaration_in : List Symbol → Declaration
declaration_in row =
    record {
      what = what_in row;
      name = get_or (words_for 8 17 21 row) 0 [];
      superclasses = words_for 10 10 10 row;
      interfaces = words_for 12 19 19 row;
      attribute_types = words_for 14 14 14 row;
      attribute_names = words_for 15 15 15 row;
      constants = words_for 23 23 23 row;
      arrow = arrow_in (class_for 35 row);
      left_end = end_for 27 28 29 31 33 row;
      right_end = end_for 41 42 43 39 37 row;
    }
