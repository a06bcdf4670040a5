-- What one walk over the row at the front of a text tells of each state of the table.
-- Assumes nothing.
use Rattle.std.specs.Prelude.{◌≤◌, ℕ, List, [], ◌≡◌, get_or, length, ltb, Option, None, Some, unwrap_or}
use Rattle.std.specs.Option.{is_some}
use Rattle.std.specs.Borrow.{Bor}
use Rattle.files.specs.Name.{Name}
use Rattle.texts.specs.Table.{class_for, words_for}
use Rattle.text_rows.specs.Noted.{unpassed, word_or}
use Rattle.text_rows.specs.RowAt.{row_at}
use Rattle.text_rows.specs.declared.Noted.{Noted}

-- the first of some words, if there is one
abbrev pub IsFirst : List Name → Option (Bor (List ℕ)) → Type 0
IsFirst ws None = length ws ≡ 0
IsFirst ws (Some w) = (length ws ≡ 0 → ⊥) × (w.now ≡ get_or ws 0 [])

-- For each of the 47 states the class of the first token that leads to it, or 29; how many words lead to it; the first of these
-- words, if there is one.
pub record Scans (s : List ℕ) (states : List Noted) : Type 0 where
  pub size_is : length states ≡ 47
  pub class-is : (q : ℕ) → q ≤ 46 → unwrap_or (get_or states q unpassed).class 29 ≡ class_for q (row_at s)
  pub class-small : (q : ℕ) → q ≤ 46 → (c : ℕ) → (get_or states q unpassed).class ≡ Some c → c ≤ 28
  pub count-is : (q : ℕ) → q ≤ 46 → (get_or states q unpassed).count ≡ length (words_for q q q (row_at s))
  pub found-is : (q : ℕ) → q ≤ 46 → is_some (get_or states q unpassed).first ≡ ltb 0 (length (words_for q q q (row_at s)))
  pub word-is : (q : ℕ) → q ≤ 46 → word_or s (get_or states q unpassed).first [] ≡ get_or (words_for q q q (row_at s)) 0 []
