-- Each way out of the code tells the token at the front: a word, a mark or a stray byte.
-- Assumes nothing.
use Prim.Native.Nat.{ℕ, ◌<◌, ◌≤◌}
use native.Mathlib.Omega.{arith}
use mathlib.Core.Bool.{cond}
use mathlib.Core.List.{List, []}
use mathlib.Core.Path.{◌≡◌, ◌∙◌, ap, sym}
use lib.Dec.{ltb}
use lib.ListN.{get_or, length, take}
use borrow.Author.Tests.{le-ltb, lt-ltb}
use Rattle.texts.specs.Token.{class_of, mark, mark_at, marks, run, size, stray, token_at, word, word_class}
use Rattle.text_rows.specs.Front.{Fronts}
use Rattle.text_rows.proofs.BlankLaws.{run-begun, run-front, run_none}

module _ (s : List ℕ) (n : ℕ) (l : n ≡ length (run s)) where
  pub front-word : 0 < n → (c : ℕ) (w : List ℕ) → w ≡ take n s → c ≡ word_class w → c ≤ 27 → Fronts s (record { class = c; size = n })
  unfolding token_at class_of size
  front-word h c w q k m =
      let b : 0 < length (run s) = omega arith in
      let t : token_at s ≡ word (run s) = rw (run-begun s b) in
      let v : w ≡ run s = q ∙ ap (λ (i : ℕ). take i s) l ∙ sym (run-front s) in
      record {
        class-is = rw t (k ∙ ap word_class v);
        class-small = omega arith;
        size_is = rw t l;
      }

  module _ (h : 0 < length s) (z : n ≤ 0) where
    no_word : token_at s ≡ cond (ltb (mark_at s) 16) (mark (mark_at s)) (stray (get_or s 0 0))
    unfolding token_at
    no_word = let b : length (run s) ≤ 0 = omega arith in rw (run_none s h b)

    pub front-mark : (m k : ℕ) → m ≡ mark_at s → m < 16 → k ≡ length (get_or marks m []) → Fronts s (record { class = m; size = k })
    unfolding class_of size
    front-mark m k q b j =
        let c : mark_at s < 16 = omega arith in
        let t : token_at s ≡ mark (mark_at s) = no_word ∙ rw (lt-ltb (mark_at s) 16 c) in
        record {
          class-is = rw t q;
          class-small = omega arith;
          size_is = rw t (j ∙ ap (λ (x : ℕ). length (get_or marks x [])) q);
        }

    pub front-stray : 16 ≡ mark_at s → Fronts s (record { class = 28; size = 1 })
    unfolding class_of size
    front-stray q =
        let c : 16 ≤ mark_at s = omega arith in
        let t : token_at s ≡ stray (get_or s 0 0) = no_word ∙ rw (le-ltb (mark_at s) 16 c) in
        record {
          class-is = rw t;
          class-small = omega arith;
          size_is = rw t;
        }
