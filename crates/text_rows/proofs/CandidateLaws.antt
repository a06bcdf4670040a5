-- Which known word a word can be: one of its length, and where two have that length, the one with its first byte. The statements
-- over all known words are computed.
-- Assumes nothing.
use Prim.Native.Nat.{ℕ, ◌<◌, ◌≤◌}
use native.Mathlib.Omega.{arith}
use mathlib.Core.Bool.{Bool, ◌&&◌, cond, false, not, true}
use mathlib.Core.List.{List, [], ◌∷◌}
use mathlib.Core.Logic.{⊎_elim}
use mathlib.Core.Path.{◌≡◌, ◌∙◌, ap, refl, sym}
use lib.Dec.{eqb, leb, ltb}
use lib.ListN.{get_or, length}
use borrow.Author.Tests.{eq-eqb, leb-true, ne_eqb, not-true}
use Rattle.std.specs.Prelude.{Option, Some, unwrap_or}
use Rattle.laws.specs.Bounded.{all}
use Rattle.laws.specs.Connective.{both, either}
use Rattle.laws.specs.Order.{is_equal, order}
use Rattle.laws.proofs.BoundedLaws.{all-at}
use Rattle.laws.proofs.ConnectiveLaws.{and_left, and_right, both_of, known, true-false}
use Rattle.laws.proofs.OrderLaws.{is_equal-eq}
use Rattle.files.specs.Name.{key, same_name}
use Rattle.texts.specs.Token.{same_word}
use Rattle.text_rows.specs.Front.{NoOther, known_words}
use Rattle.text_rows.proofs.AmongLaws.{Apart, alone, among, among_any, apart_none, excluded}

other_word : (v w : List ℕ) → (v ≡ w → ⊥) → same_word v w ≡ false
unfolding same_word
other_word v w n = ⊎_elim (λ q. absurd (n (is_equal-eq v w q))) (λ q. q) (known (is_equal (order v w)))

-- ---- the candidate

-- no known word but word k passes the test
abbrev pub only_one : ℕ → (List ℕ → Bool) → Bool
only_one k p = leb k 10 && all (λ i. either (eqb i k) (not (p (get_or known_words i [])))) 10

only-one : (k : ℕ) (p : List ℕ → Bool) → only_one k p ≡ true → (w : List ℕ) → p w ≡ true → NoOther w k
unfolding either
only-one k p t w e =
    let s = all (λ i. either (eqb i k) (not (p (get_or known_words i [])))) 10 in
    record {
      small = leb-true k 10 (and_left (leb k 10) s t);
      no_other = λ i h d.
          let f : not (p (get_or known_words i [])) ≡ true
          = sym (ap (λ (x : Bool). either x (not (p (get_or known_words i [])))) (ne_eqb i k d))
          ∙ all-at (λ i. either (eqb i k) (not (p (get_or known_words i [])))) 10 (and_right (leb k 10) s t) i h in
          other_word (get_or known_words i []) w (λ q. true-false (ap p q ∙ e) (not-true (p (get_or known_words i [])) f));
    }

-- by the length
pub by_length : {w : List ℕ} {n : ℕ} → length w ≡ n → (k : ℕ) → only_one k (λ v. eqb (length v) n) ≡ true → NoOther w k
by_length {w} {n} l k t = only-one k (λ v. eqb (length v) n) t w (eq-eqb (length w) n l)

-- by the length and the first byte
pub by_front : {w : List ℕ} {n : ℕ} → length w ≡ n → (x j k : ℕ) → only_one j (λ v. both (eqb (length v) n) (eqb x (get_or v 0 0))) ≡ true
    → only_one k (λ v. both (eqb (length v) n) (not (eqb x (get_or v 0 0)))) ≡ true → {o : Option ℕ} → o ≡ cond (eqb x (get_or w 0 0)) (Some j) (Some k) → NoOther w (unwrap_or o 10)
by_front {w} {n} l x j k s t {o} = go (eqb x (get_or w 0 0)) refl
  where
    go : (b : Bool) → eqb x (get_or w 0 0) ≡ b → o ≡ cond b (Some j) (Some k) → NoOther w (unwrap_or o 10)
    go true e q =
        rw q (only-one j (λ v. both (eqb (length v) n) (eqb x (get_or v 0 0))) s w (both_of (eqb (length w) n) (eqb x (get_or w 0 0)) (eq-eqb (length w) n l) e))
    go false e q =
        rw q
        (only-one k (λ v. both (eqb (length v) n) (not (eqb x (get_or v 0 0)))) t w
        (both_of (eqb (length w) n) (not (eqb x (get_or w 0 0))) (eq-eqb (length w) n l) (ap not e)))

-- no known word has another length than these
abbrev pub lengths : List (List ℕ)
lengths = (4 ∷ []) ∷ (5 ∷ []) ∷ (7 ∷ []) ∷ (8 ∷ []) ∷ (9 ∷ []) ∷ (10 ∷ []) ∷ (11 ∷ []) ∷ (12 ∷ []) ∷ []

all-lengths : all (λ i. among_any (length (get_or known_words i [])) lengths) 10 ≡ true
unfolding all among_any among either
all-lengths = refl

pub by-no-length : (w : List ℕ) → Apart Unit (length w) lengths → NoOther w 10
by-no-length w a =
    record {
      small = omega arith;
      no_other = λ i h d.
          other_word (get_or known_words i []) w
          (λ q.
          true-false (ap (λ (v : List ℕ). among_any (length v) lengths) (sym q) ∙ all-at (λ i. among_any (length (get_or known_words i [])) lengths) 10 all-lengths i h)
          (apart_none (length w) lengths a));
    }

-- ---- the comparison with it

all-places : all (λ k. either (among_any k (alone 0 10)) (not (ltb k 10))) 11 ≡ true
unfolding all among_any among either
all-places = refl

module _ (w : List ℕ) {k : ℕ} where
  pub is_known : (i : ℕ) → ltb i 10 ≡ true → k ≡ i → {r : Bool} → r ≡ same_name (get_or known_words i []) w
      → r ≡ both (ltb k 10) (same_word (get_or known_words k []) w)
  unfolding same_name key same_word both
  is_known i b e q = rw (e, b) q

  pub is-unknown : k ≤ 10 → Apart Unit k (alone 0 10) → false ≡ both (ltb k 10) (same_word (get_or known_words k []) w)
  unfolding both
  is-unknown h a =
      let b : k < 11 = omega arith in
      rw (not-true (ltb k 10) (excluded 11 (alone 0 10) (λ k. not (ltb k 10)) all-places k b a))
