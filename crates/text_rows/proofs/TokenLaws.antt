-- Laws of `tokens`: the token at the front of a list, of what kind it is, how many bytes it has, and what follows it.
-- Assumes nothing.
use Prim.Native.Nat.{ℕ, suc, zero, ◌-◌, ◌<◌, ◌≤◌}
use native.Mathlib.Omega.{arith}
use mathlib.Core.Bool.{Bool, cond, false, true}
use mathlib.Core.List.{List, [], ◌∷◌}
use mathlib.Core.Path.{◌≡◌, ◌∙◌, ap, refl, sym}
use lib.Dec.{leb, ltb}
use lib.ListN.{drop, get_or, length, take}
use borrow.Author.Tests.{le-leb, le-ltb, leb-true, ltb-true}
use Rattle.laws.specs.Connective.{both}
use Rattle.laws.proofs.ConnectiveLaws.{both_false, both_left, both-no-left, both_of, both_right}
use Rattle.files.specs.Name.{Name, name_byte}
use Rattle.texts.specs.Token.{Token, class_of, is_blank, mark, mark_at, marks, run, size, stray, token_at, tokens, tokens_after, word}
use Rattle.texts.specs.Table.{is_name_state, long_at, word_if}
use Rattle.texts.specs.TextChecks.{is_long}
use Rattle.text_rows.specs.Front.{unblank}
use Rattle.text_rows.specs.Noted.{is_word_class}
use Rattle.text_rows.proofs.BlankLaws.{run-front, run-some, unblank-none}
use Rattle.text_rows.proofs.MarkLaws.{mark-least, mark-most}
use Rattle.text_rows.proofs.WordLaws.{class-least, class-most}

-- what holds of each kind of token that can stand at the front
pub token-cases : (P : Token → Type 0) (s : List ℕ) → (name_byte (get_or s 0 0) ≡ true → P (word (run s))) → ((i : ℕ) → i < 16 → P (mark i))
    → ((b : ℕ) → P (stray b)) → P (token_at s)
unfolding token_at
token-cases P s f g h = go (name_byte (get_or s 0 0)) refl (ltb (mark_at s) 16) refl
  where
    go : (a : Bool) → name_byte (get_or s 0 0) ≡ a → (b : Bool) → ltb (mark_at s) 16 ≡ b → P (cond a (word (run s)) (cond b (mark (mark_at s)) (stray (get_or s 0 0))))
    go true e b q = f e
    go false e true q = g (mark_at s) (ltb-true (mark_at s) 16 q)
    go false e false q = h (get_or s 0 0)

pub size-least : (s : List ℕ) → 0 < length s → 1 ≤ size (token_at s)
unfolding size
size-least s h = token-cases (λ t. 1 ≤ size t) s (λ e. run-some s h e) (λ i l. mark-least i l) (λ b. omega arith)

-- ---- the tokens of a list

pub tokens-after : (s : List ℕ) (n : ℕ) → tokens_after s n ≡ tokens (drop n s)
unfolding tokens tokens_after
tokens-after [] zero = refl
tokens-after [] (suc n) = refl
tokens-after (x ∷ s) zero = refl
tokens-after (x ∷ s) (suc n) = tokens-after s n

pub tokens-end : (s : List ℕ) → length s ≤ 0 → tokens s ≡ []
unfolding tokens tokens_after
tokens-end [] h = refl
tokens-end (x ∷ s) h = absurd (omega arith)

pub tokens-unblank : (s : List ℕ) → tokens (unblank s) ≡ tokens s
unfolding tokens tokens_after unblank
tokens-unblank [] = refl
tokens-unblank (x ∷ s) = go (tokens-unblank s) (is_blank x) refl
  where
    go : tokens (unblank s) ≡ tokens s → (b : Bool) → is_blank x ≡ b → tokens (cond b (unblank s) (x ∷ s)) ≡ tokens (x ∷ s)
    go u true e = rw e u
    go u false e = refl

pub tokens-step : (s : List ℕ) → 0 < length s → unblank s ≡ s → tokens s ≡ token_at s ∷ tokens (drop (size (token_at s)) s)
unfolding tokens tokens_after
tokens-step [] h u = absurd (omega arith)
tokens-step (x ∷ s) h u = rw (unblank-none x s u) (ap (λ (ts : List Token). token_at (x ∷ s) ∷ ts) (go (size (token_at (x ∷ s))) (size-least (x ∷ s) h)))
  where
    go : (n : ℕ) → 1 ≤ n → tokens_after s (n - 1) ≡ tokens (drop n (x ∷ s))
    go zero l = absurd (omega arith)
    go (suc n) l = let e : suc n - 1 ≡ n = omega arith in rw e (tokens-after s n)

-- ---- what the code asks of a token by its class and size

-- a name over 16 bytes: no mark has so many
pub long-front : (q : ℕ) (s : List ℕ) → long_at q (token_at s) ≡ both (is_name_state q) (ltb 16 (size (token_at s)))
unfolding long_at is_long size
long-front q s =
    token-cases (λ t. long_at q t ≡ both (is_name_state q) (ltb 16 (size t))) s (λ e. refl)
    (λ i l.
    let m = mark-most i l in
    let k : length (get_or marks i []) ≤ 16 = omega arith in
    sym (ap (λ (b : Bool). both (is_name_state q) b) (le-ltb 16 (length (get_or marks i [])) k) ∙ both_false (is_name_state q))) (λ b. sym (both_false (is_name_state q)))

-- where the test says so, a word is taken, and it is the front of the list
pub word-taken : (b : Bool) (s : List ℕ) (ws : List Name) → both b (is_word_class (class_of (token_at s))) ≡ true
    → word_if b (token_at s) ws ≡ take (size (token_at s)) s ∷ ws
unfolding class_of size
word-taken b s ws =
    token-cases (λ t. both b (is_word_class (class_of t)) ≡ true → word_if b t ws ≡ take (size t) s ∷ ws) s
    (λ e t. rw (both_left b (is_word_class (class_of (word (run s)))) t) (ap (λ (w : Name). w ∷ ws) (run-front s)))
    (λ i l t. let k = leb-true 16 i (both_left (leb 16 i) (leb i 27) (both_right b (is_word_class i) t)) in absurd (omega arith))
    (λ x t. let k = leb-true 28 27 (both_right (leb 16 28) (leb 28 27) (both_right b (is_word_class 28) t)) in absurd (omega arith))

-- where it does not, none is
pub word-passed : (b : Bool) (s : List ℕ) (ws : List Name) → both b (is_word_class (class_of (token_at s))) ≡ false → word_if b (token_at s) ws ≡ ws
unfolding class_of
word-passed b s ws =
    token-cases (λ t. both b (is_word_class (class_of t)) ≡ false → word_if b t ws ≡ ws) s
    (λ e t.
    let k = both_of (leb 16 (class_of (word (run s)))) (leb (class_of (word (run s))) 27) (le-leb 16 (class_of (word (run s))) (class-least (run s)))
    (le-leb (class_of (word (run s))) 27 (class-most (run s))) in
    rw (both-no-left b (is_word_class (class_of (word (run s)))) t k)) (λ i l t. refl) (λ x t. refl)
