-- Where the row of a text ends: the unread rest is the text behind so many bytes, and the rows from the text's own state continue
-- with those from the rest's.
-- Assumes nothing.
use Prim.Native.Nat.{ℕ, suc, ◌+◌, ◌-◌, ◌≤◌}
use native.Mathlib.Omega.{arith}
use mathlib.Core.Bool.{Bool, cond, false, true}
use mathlib.Core.List.{List, [], ◌∷◌}
use mathlib.Core.Logic.{⊎_elim}
use mathlib.Core.Path.{◌≡◌, ◌∙◌, ap, refl, subst, sym}
use lib.Dec.{eqb, leb}
use lib.ListN.{drop, drop_of_length-le, length, length-drop}
use lib.Seq.{drop-drop}
use Rattle.std.specs.Borrow.{Bor}
use Rattle.std.specs.Prelude.{Option, None, Some, unwrap_or}
use borrow.Author.Tests.{eq-eqb, leb-false, leb-true, ne_eqb}
use Rattle.laws.proofs.ConnectiveLaws.{known}
use Rattle.texts.specs.Token.{is_blank, token_at, tokens}
use Rattle.texts.specs.Table.{Symbol, onto, row_from, rows_from, symbol}
use Rattle.text_rows.specs.declared.Passed.{Passed}
use Rattle.text_rows.specs.Front.{unblank}
use Rattle.text_rows.specs.Passes.{Passed_at}
use Rattle.text_rows.specs.RowAt.{RowEnd, RowEnds}
use Rattle.text_rows.proofs.RowLaws.{rest-shorter, row_on, to-next, tokens-none, tokens-on}

-- ---- t is s behind some of its first bytes

pub record Behind (s t : List ℕ) : Type 0 where
  pub count : ℕ
  pub is : t ≡ drop count s

pub behind-drop : (s t u : List ℕ) (k : ℕ) → Behind s t → u ≡ drop k t → Behind s u
behind-drop s t u k b e = record { count = b.count + k; is = e ∙ ap (drop k) b.is ∙ drop-drop k b.count s }

pub unblank-behind : (s : List ℕ) → Behind s (unblank s)
unfolding unblank
unblank-behind [] = record { count = 0; is = refl }
unblank-behind (x ∷ s) = go (unblank-behind s) (is_blank x)
  where
    go : Behind s (unblank s) → (b : Bool) → Behind (x ∷ s) (cond b (unblank s) (x ∷ s))
    go w true = record { count = suc w.count; is = w.is }
    go w false = record { count = 0; is = refl }

pub behind-unblank : (s t u : List ℕ) → Behind s t → u ≡ unblank t → Behind s u
behind-unblank s t u b e = behind-drop s t u (unblank-behind t).count b (e ∙ (unblank-behind t).is)

pub behind-self : (s : List ℕ) → Behind s s
behind-self s = record { count = 0; is = refl }

-- so is what stands from the next token on, and behind it
pub behind-start : {s t : List ℕ} {q : ℕ} {p : Passed} → Passed_at t q p → Behind s t → Behind s p.start.now
behind-start {s} {t} {q} {p} h b = behind-unblank s t p.start.now b h.start-is

pub behind-after : {s t : List ℕ} {q : ℕ} {p : Passed} → Passed_at t q p → Behind s t → Behind s p.after.now
behind-after {s} {t} {q} {p} h b = behind-drop s p.start.now p.after.now p.front.size (behind-start h b) h.after-is

-- by how many, the lengths tell
pub behind-is : (s t : List ℕ) → Behind s t → (length t ≤ length s) × (t ≡ drop (length s - length t) s)
behind-is s t b = ⊎_elim short long (known (leb b.count (length s)))
  where
    lengths : length t ≡ length s - b.count
    lengths = ap (λ (l : List ℕ). length l) b.is ∙ length-drop b.count s

    short : leb b.count (length s) ≡ true → (length t ≤ length s) × (t ≡ drop (length s - length t) s)
    short e =
        let h = leb-true b.count (length s) e in
        let l = lengths in
        let k : length s - length t ≡ b.count = omega arith in
        (omega arith, b.is ∙ ap (λ (i : ℕ). drop i s) (sym k))

    long : leb b.count (length s) ≡ false → (length t ≤ length s) × (t ≡ drop (length s - length t) s)
    long e =
        let h = leb-false b.count (length s) e in
        let l = lengths in
        let m : length s ≤ b.count = omega arith in
        let k : length s ≤ length s - length t = omega arith in
        (omega arith, b.is ∙ drop_of_length-le s m ∙ sym (drop_of_length-le s k))

-- ---- the rows from q on in s continue with those from n on in t

pub record Continues (q : ℕ) (s : List ℕ) (n : ℕ) (t : List ℕ) : Type 0 where
  pub none : rows_from n (tokens t) ≡ [] → rows_from q (tokens s) ≡ []
  pub more : (rs : List (List Symbol)) → rows_from n (tokens t) ≡ row_from n (tokens t) ∷ rs → rows_from q (tokens s) ≡ row_from q (tokens s) ∷ rs

pub continues-self : (q : ℕ) (s : List ℕ) → Continues q s q s
continues-self q s = record { none = λ h. h; more = λ rs h. h }

module _ {q₀ : ℕ} {s r : List ℕ} {q : ℕ} {p : Passed} (h : Passed_at r q p) (c : Continues q₀ s q r) where
  rows_on : rows_from q (tokens r)
      ≡ cond (eqb p.state.number 3) ((symbol p.state.number (token_at p.start.now) ∷ []) ∷ rows_from p.state.number (tokens p.after.now)) (onto (symbol p.state.number (token_at p.start.now)) (rows_from p.state.number (tokens p.after.now)))
  unfolding rows_from
  rows_on = rw (tokens-on h, to-next h)

  -- the row goes on
  pub continues-next : (p.state.number ≡ 3 → ⊥) → Continues q₀ s p.state.number p.after.now
  continues-next u =
      let a : rows_from q (tokens r) ≡ onto (symbol p.state.number (token_at p.start.now)) (rows_from p.state.number (tokens p.after.now)) = rows_on ∙ rw (ne_eqb p.state.number 3 u) in
      let b : row_from q (tokens r) ≡ symbol p.state.number (token_at p.start.now) ∷ row_from p.state.number (tokens p.after.now) = row_on h ∙ rw (ne_eqb p.state.number 3 u) in
      record {
        none = λ e. c.none (a ∙ ap (onto (symbol p.state.number (token_at p.start.now))) e);
        more = λ rs e. c.more rs (a ∙ ap (onto (symbol p.state.number (token_at p.start.now))) e ∙ ap (λ (x : List Symbol). x ∷ rs) (sym b));
      }

  -- the row ends behind the token
  pub row_ends : p.state.number ≡ 3 → Behind s r → RowEnd q₀ s p.after.now
  row_ends t g =
      let b = (behind-is s r g).0 in
      let d = behind-is s p.after.now (behind-after h g) in
      let l = rest-shorter h in
      let e : row_from q (tokens r) ≡ symbol p.state.number (token_at p.start.now) ∷ [] = row_on h ∙ rw (eq-eqb p.state.number 3 t) in
      let a : rows_from q (tokens r) ≡ (symbol p.state.number (token_at p.start.now) ∷ []) ∷ rows_from 3 (tokens p.after.now) = rows_on ∙ rw (eq-eqb p.state.number 3 t, t) in
      record {
        shorter = omega arith;
        is_end = d.1;
        one_more = c.more (rows_from 3 (tokens p.after.now)) (a ∙ rw e);
      }

  pub ends-some : p.state.number ≡ 3 → Behind s r → (b : Bor (List ℕ)) → b.now ≡ p.after.now → RowEnds q₀ s (Some b)
  ends-some t g b i =
      record {
        none_left = λ e. cc;
        ends = λ (u : Bor (List ℕ)) e. subst (λ (x : List ℕ). RowEnd q₀ s x) (sym i ∙ ap (λ (o : Option (Bor (List ℕ))). (unwrap_or o b).now) e) (row_ends t g);
      }

-- no row ends
pub ends-none : (q₀ : ℕ) (s r : List ℕ) (q : ℕ) → Continues q₀ s q r → unblank r ≡ [] → RowEnds q₀ s None
unfolding rows_from
ends-none q₀ s r q c h =
    record {
      none_left = λ y. c.none (rw (tokens-none r q h));
      ends = λ t e. cc;
    }
