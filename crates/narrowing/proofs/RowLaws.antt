-- What is left of a row: part of it, and all that an allowed world has there.
-- Assumes nothing.
use Prim.Native.Nat.{◌*◌, ◌+◌, ◌/◌, ◌<◌, ◌≤◌, ℕ}
use mathlib.Core.Bool.{Bool, cond, false, true}
use mathlib.Core.List.{List}
use mathlib.Core.Path.{◌∙◌, ◌≡◌, ap, ap₂, refl, sym}
use native.Mathlib.Omega.{arith}
use lib.Bits.{bit_and}
use lib.Dec.{eqb}
use lib.ListN.{get_or}
use borrow.Author.Tests.{eq-eqb, ne_eqb}
use Rattle.laws.specs.Bits.{bit}
use Rattle.laws.specs.Bounded.{tally}
use Rattle.laws.proofs.BitLaws.{bit-and, bit-zero}
use Rattle.laws.proofs.ConnectiveLaws.{and_both, and_left, true-false}
use Rattle.laws.proofs.CountLaws.{tally-less}
use Rattle.growing.specs.World.{World}
use Rattle.worlds.specs.declared.Lines.{Lines}
use Rattle.worlds.specs.Kept.{sheet}
use Rattle.narrowing.specs.Narrow.{Narrows, usable_row}

nothing : (u : ℕ) (A : Type 0) → bit u 0 ≡ true → A
nothing u A e = absurd (true-false e (bit-zero u))

module _ (mask high usable t : ℕ) where
  pub row-none : high ≡ 0 → 0 ≡ usable_row mask high usable t
  unfolding usable_row
  row-none e = sym (ap (λ (a : Bool). cond a 0 (cond (bit t usable) (bit_and mask usable) 0)) (eq-eqb high 0 e))

  pub row-no-type : (high ≡ 0 → ⊥) → bit t usable ≡ false → 0 ≡ usable_row mask high usable t
  unfolding usable_row
  row-no-type n e = sym (ap₂ (λ (a b : Bool). cond a 0 (cond b (bit_and mask usable) 0)) (ne_eqb high 0 n) e)

  pub row-left : (high ≡ 0 → ⊥) → bit t usable ≡ true → bit_and mask usable ≡ usable_row mask high usable t
  unfolding usable_row
  row-left n e = sym (ap₂ (λ (a b : Bool). cond a 0 (cond b (bit_and mask usable) 0)) (ne_eqb high 0 n) e)

pub row-less : (mask high usable t u : ℕ) → bit u (usable_row mask high usable t) ≡ true → bit u mask ≡ true
unfolding usable_row
row-less mask high usable t u = go (eqb high 0) (bit t usable)
  where
    go : (a b : Bool) → bit u (cond a 0 (cond b (bit_and mask usable) 0)) ≡ true → bit u mask ≡ true
    go true b e = nothing u (bit u mask ≡ true) e
    go false false e = nothing u (bit u mask ≡ true) e
    go false true e = and_left (bit u mask) (bit u usable) (sym (bit-and u mask usable) ∙ e)

pub row_kept : (mask high usable t u : ℕ) → 0 < high → bit t usable ≡ true → bit u usable ≡ true → bit u mask ≡ true → bit u (usable_row mask high usable t) ≡ true
unfolding usable_row
row_kept mask high usable t u some from to e =
    ap₂ (λ (a b : Bool). bit u (cond a 0 (cond b (bit_and mask usable) 0))) (ne_eqb high 0 (λ z. omega arith)) from
    ∙ bit-and u mask usable ∙ and_both (bit u mask) (bit u usable) e to

-- a row with a link has at least one
some : (w : World) (s o p : ℕ) → p < w.size → w.link s o p ≡ true → 1 ≤ tally (λ p. w.link s o p) w.size
some w s o p l e = let z = tally-less (λ _. false) (λ p. w.link s o p) w.size p (λ k _ h. absurd (true-false h refl)) l refl e in omega arith

-- r has what is left at each place
pub narrows : (usable singles : ℕ) (targets lows highs : List ℕ) (x : Lines) (r : List ℕ)
    → ((i : ℕ) → i < 768 → get_or r i 0 ≡ usable_row (get_or targets i 0) (get_or highs i 0) usable (i / 32)) → Narrows (sheet usable singles targets lows highs x) r
narrows usable singles targets lows highs x r is = record {
  less = λ i t l e. row-less (get_or targets i 0) (get_or highs i 0) usable (i / 32) t (sym (ap (bit t) (is i l)) ∙ e);
  kept = λ w a s o p ls lo lp e.
      let i = w.kind o * 32 + s in
      let k : w.kind o < 24 = a.known o lo in
      let q : i / 32 ≡ w.kind o = omega arith in
      let one : 1 ≤ tally (λ p. w.link s o p) w.size = some w s o p lp e in
      ap (bit (w.kind p)) (is i (omega arith))
      ∙ row_kept (get_or targets i 0) (get_or highs i 0) usable (i / 32) (w.kind p) (omega (arith, (a.rows.limited s o ls lo).most)) (ap (λ (t : ℕ). bit t usable) q ∙ a.usable o lo)
      (a.usable p lp) (a.rows.allowed s o p ls lo lp e);
}
