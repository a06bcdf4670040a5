-- The walk over a row that notes each token: what is noted, with what the tokens that are left tell, is what the row of the text tells.
-- Assumes nothing.
use Rattle.std.specs.Prelude.{ℕ, zero, suc, ◌+◌, ◌-◌, ◌≤◌, Bool, cond, false, true, List, [], ◌∷◌, ◌≡◌, eqb, drop, get_or, length, take}
use Rattle.std.proofs.Common.{◌∙◌, ap, refl, subst, sym, arith, replicate, set, length-set}
use mathlib.Core.Logic.{⊎_elim}
use lib.Seq.{get_or-set_other, get_or-set_same}
use borrow.Author.Tests.{eq-eqb, eqb-false, eqb-true, ne_eqb}
use Rattle.laws.specs.Bounded.{one}
use Rattle.laws.specs.Connective.{both}
use Rattle.laws.proofs.ConnectiveLaws.{known}
use Rattle.texts.specs.Token.{Token, class_of, token_at, tokens}
use Rattle.texts.specs.Table.{Symbol, row_from, symbol, word_if}
use Rattle.text_rows.specs.declared.Noted.{Noted}
use Rattle.text_rows.specs.declared.Passed.{Passed}
use Rattle.text_rows.specs.Front.{unblank}
use Rattle.text_rows.specs.Noted.{is_word_class, noted, unpassed}
use Rattle.text_rows.specs.Passes.{Passed_at}
use Rattle.text_rows.specs.RowAt.{row_at}
use Rattle.text_rows.specs.Scan.{Scans}
use Rattle.text_rows.proofs.BoundLaws.{count-bound}
use Rattle.text_rows.proofs.EndLaws.{Behind, Continues, behind-is, behind-start}
use Rattle.text_rows.proofs.EntryLaws.{Entry, Stands, entry-begin, entry-class, entry-count, entry-found, entry_other, entry-own, entry-word}
use Rattle.text_rows.proofs.RowLaws.{row-none, row_on}
use Rattle.text_rows.proofs.TokenLaws.{word-passed, word-taken}

-- what is known of each state, with the symbols that are left
pub record ScannedTo (s : List ℕ) (states : List Noted) (left : List Symbol) : Type 0 where
  pub long : length states ≡ 47
  pub entry : (x : ℕ) → x ≤ 46 → Entry s (row_at s) left x (get_or states x unpassed)

-- ---- no token is passed

get_or-unpassed : (n x : ℕ) → get_or (replicate n unpassed) x unpassed ≡ unpassed
get_or-unpassed zero x = refl
get_or-unpassed (suc n) zero = refl
get_or-unpassed (suc n) (suc x) = get_or-unpassed n x

pub scanned-begin : (s : List ℕ) → ScannedTo s (replicate 47 unpassed) (row_from 3 (tokens s))
unfolding row_at
scanned-begin s =
    record {
      long = refl;
      entry = λ x h. rw (get_or-unpassed 47 x) (entry-begin s (row_from 3 (tokens s)) x);
    }

-- ---- all tokens are passed

scanned-all : {s : List ℕ} {states : List Noted} → ScannedTo s states [] → Scans s states
scanned-all c =
    record {
      size_is = c.long;
      class-is = λ x h. entry-class (c.entry x h);
      class-small = λ x h. (c.entry x h).class-small;
      count-is = λ x h. entry-count (c.entry x h);
      found-is = λ x h. entry-found (c.entry x h);
      word-is = λ x h. entry-word (c.entry x h);
    }

pub scanned-end : {s : List ℕ} {states : List Noted} (r : List ℕ) (q : ℕ) → unblank r ≡ [] → ScannedTo s states (row_from q (tokens r)) → Scans s states
scanned-end {s} {states} r q none c = scanned-all (subst (ScannedTo s states) (row-none r q none) c)

-- ---- a token is passed

module _ {s : List ℕ} {states : List Noted} {left : List Symbol} {t : Token} {q class at size : ℕ} (low : q ≤ 46)
    (c : ScannedTo s states (symbol q t ∷ left)) (stands : Stands s t class at size) where
  -- what is noted with it
  abbrev after : List Noted
  after = set states q (noted (get_or states q unpassed) class at size)

  own : Entry s (row_at s) left q (get_or after q unpassed)
  own =
      let l = c.long in
      rw (get_or-set_same states q (noted (get_or states q unpassed) class at size) unpassed (omega arith))
      (entry-own (eq-eqb q q refl) stands (c.entry q low))

  other : (x : ℕ) → x ≤ 46 → (x ≡ q → ⊥) → Entry s (row_at s) left x (get_or after x unpassed)
  other x l d =
      rw (get_or-set_other states q x (noted (get_or states q unpassed) class at size) unpassed d)
      (entry_other (ne_eqb q x (λ e. d (sym e))) (c.entry x l))

  scanned-on : ScannedTo s after left
  scanned-on =
      record {
        long = length-set states q (noted (get_or states q unpassed) class at size) ∙ c.long;
        entry = λ x l. ⊎_elim (λ e. rw (eqb-true x q e) own) (λ e. other x l (eqb-false x q e)) (known (eqb x q));
      }

  -- its count is a number of words of the text
  scanned-count : (get_or states q unpassed).count + one (is_word_class class) ≤ length s
  unfolding noted
  scanned-count = let a = (entry-own (eq-eqb q q refl) stands (c.entry q low)).count-is in omega (arith, count-bound q q q s)

-- as the code has it
module _ {s : List ℕ} {states : List Noted} {r : List ℕ} {q : ℕ} {p : Passed} (h : Passed_at r q p) (behind : Behind s r)
    (c : ScannedTo s states (row_from q (tokens r))) where
  -- the token is a word, and which one
  front-word : (ws : List (List ℕ)) → word_if true (token_at p.start.now) ws ≡ cond (is_word_class p.front.class) (take p.front.size (drop (length s - length p.start.now) s) ∷ ws) ws
  unfolding both
  front-word ws = go (is_word_class p.front.class) (ap is_word_class h.tells.class-is)
    where
      go : (b : Bool) → b ≡ is_word_class (class_of (token_at p.start.now)) → word_if true (token_at p.start.now) ws ≡ cond b (take p.front.size (drop (length s - length p.start.now) s) ∷ ws) ws
      go true e = word-taken true p.start.now ws (sym e) ∙ rw (h.tells.size_is, sym (behind-is s p.start.now (behind-start h behind)).1)
      go false e = word-passed true p.start.now ws (sym e)

  stands : Stands s (token_at p.start.now) p.front.class (length s - length p.start.now) p.front.size
  stands = record { class-is = h.tells.class-is; class-small = h.tells.class-small; word-is = front-word }

  here : ScannedTo s states (symbol p.state.number (token_at p.start.now) ∷ cond (eqb p.state.number 3) [] (row_from p.state.number (tokens p.after.now)))
  here = subst (ScannedTo s states) (row_on h) c

  pub scanned-room : (get_or states p.state.number unpassed).count + one (is_word_class p.front.class) ≤ length s
  scanned-room = scanned-count p.state.in_table here stands

  module _ {states' : List Noted} (is : states' ≡ set states p.state.number (noted (get_or states p.state.number unpassed) p.front.class (length s - length p.start.now) p.front.size)) where
    behind-it : ScannedTo s states' (cond (eqb p.state.number 3) [] (row_from p.state.number (tokens p.after.now)))
    behind-it = rw is (scanned-on p.state.in_table here stands)

    pub scanned-stop : p.state.number ≡ 3 → Scans s states'
    scanned-stop t = scanned-all (subst (ScannedTo s states') (rw (eq-eqb p.state.number 3 t)) behind-it)

    pub scanned-next : (p.state.number ≡ 3 → ⊥) → ScannedTo s states' (row_from p.state.number (tokens p.after.now))
    scanned-next u = subst (ScannedTo s states') (rw (ne_eqb p.state.number 3 u)) behind-it

-- ---- the loop

-- what it keeps, in state q with r unread
pub record Walks (s r : List ℕ) (q : ℕ) (states : List Noted) : Type 0 where
  pub low : q ≤ 46
  pub behind : Behind s r
  pub continues : Continues 3 s q r
  pub scanned : ScannedTo s states (row_from q (tokens r))
