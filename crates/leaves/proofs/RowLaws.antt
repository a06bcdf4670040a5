-- The rows of a net are within their limits exactly when the links are within the tables' limits and the query's.
-- Assumes nothing.
use Prim.Native.Nat.{◌%◌, ◌*◌, ◌+◌, ◌/◌, ◌<◌, ℕ}
use native.Mathlib.Omega.{arith}
use mathlib.Core.Bool.{Bool}
use mathlib.Core.List.{List}
use mathlib.Core.Path.{◌≡◌, ◌∙◌, ap, ap₂, refl, sym}
use borrow.Author.Tests.{eq-eqb, eqb-true, lt-ltb, ltb-false, ltb-true}
use lib.Dec.{eqb, ltb}
use lib.ListN.{get_or}
use Rattle.laws.specs.Bounded.{tally}
use Rattle.laws.proofs.BoundedLaws.{tally-none}
use Rattle.laws.proofs.ConnectiveLaws.{and_both, and_left, and_right}
use Rattle.laws.proofs.CountLaws.{tally-le}
use Rattle.link_search.specs.Nets.{Net, InLimits}
use Rattle.link_search.specs.Families.{RowsFit}
use Rattle.worlds.specs.declared.Query.{Query}
use Rattle.link_search.specs.declared.asked.Limits.{Limits}
use Rattle.leaves.specs.Arrays.{RowsAsk, is_first, row_high, row_low, spot_of}
use Rattle.leaves.proofs.NetCountLaws.{Agree, off, row_count}
use Rattle.leaves.proofs.WithinLaws.{tight-first, tight-of, tight-own, within_same}

module _ (lows highs types : List ℕ) (n : ℕ) (q : Query) (r : List Limits) (a : RowsAsk lows highs types n q r) (row : q.row.slot < 32) (link : ℕ → ℕ → ℕ → Bool) (v : Net)
    (g : Agree n link v) where
  -- the limits by the tables, and those by the query
  abbrev Limited : Type 0
  Limited = (s o : ℕ) → s < 32 → o < n → InLimits (get_or lows (get_or types o 0 * 32 + s) 0) (get_or highs (get_or types o 0 * 32 + s) 0) (tally (λ p. link s o p) n)

  abbrev RowAsked : Type 0
  RowAsked = 0 < q.seeds → InLimits q.row.low q.row.high (tally (λ p. link q.row.slot 0 p) n)

  count : (i : ℕ) → i < 256 → tally (v i) 8 ≡ tally (λ p. link (i % 32) (i / 32) p) n
  count i h =
      let e : i ≡ i / 32 * 32 + i % 32 = omega arith in
      ap (λ (x : ℕ). tally (v x) 8) e ∙ row_count n types link v g (i % 32) (i / 32) (omega arith) (omega arith)

  -- of the row that the query asks
  first_count : (i : ℕ) → i < 256 → i ≡ q.row.slot → tally (v i) 8 ≡ tally (λ p. link q.row.slot 0 p) n
  first_count i h e =
      let d : i / 32 ≡ 0 = omega arith in
      let m : i % 32 ≡ q.row.slot = omega arith in
      count i h ∙ ap₂ (λ (x y : ℕ). tally (λ p. link x y p) n) m d

  row_within : Limited → RowAsked → (i : ℕ) → i < 256 → InLimits (row_low lows types n q i) (row_high highs types n q i) (tally (v i) 8)
  unfolding row_low row_high
  row_within f c i h =
      tight-of (ltb i (n * 32)) (is_first q i) (get_or lows (spot_of types i) 0) (get_or highs (spot_of types i) 0) q.row.low q.row.high (tally (v i) 8) (tally-le (v i) 8)
      (λ e. let t = ltb-true i (n * 32) e in within_same refl refl (sym (count i h)) (f (i % 32) (i / 32) (omega arith) (omega arith)))
      (λ e. let t = ltb-false i (n * 32) e in count i h ∙ tally-none (λ p. link (i % 32) (i / 32) p) n (λ p _. off n types link v g (i % 32) (i / 32) p (λ x y. omega arith)))
      (λ e.
      within_same refl refl (sym (first_count i h (eqb-true i q.row.slot (and_right (ltb 0 q.seeds) (eqb i q.row.slot) e)))) (c (ltb-true 0 q.seeds (and_left (ltb 0 q.seeds) (eqb i q.row.slot) e))))

  pub rows_of : Limited → RowAsked → RowsFit r v
  rows_of f c = record { at = λ i h. within_same (sym (a i h).low) (sym (a i h).high) refl (row_within f c i h) }

  module _ (w : RowsFit r v) where
    at : (i : ℕ) → i < 256 → InLimits (row_low lows types n q i) (row_high highs types n q i) (tally (v i) 8)
    at i h = within_same (a i h).low (a i h).high refl (w.at i h)

    pub limited-of : Limited
    unfolding row_low row_high
    limited-of s o hs ho =
        let few = g.few in
        let i = o * 32 + s in
        let d : (o * 32 + s) / 32 ≡ o = omega arith in
        let m : (o * 32 + s) % 32 ≡ s = omega arith in
        let h : o * 32 + s < 256 = omega arith in
        let spot : spot_of types (o * 32 + s) ≡ get_or types o 0 * 32 + s = ap₂ (λ (x y : ℕ). get_or types x 0 * 32 + y) d m in
        within_same (ap (λ (x : ℕ). get_or lows x 0) spot) (ap (λ (x : ℕ). get_or highs x 0) spot) (row_count n types link v g s o hs (omega arith))
        (tight-own (ltb i (n * 32)) (is_first q i) (get_or lows (spot_of types i) 0) (get_or highs (spot_of types i) 0) q.row.low q.row.high (tally (v i) 8) (at i h)
        (lt-ltb i (n * 32) (omega arith)))

    pub row-asked-of : RowAsked
    unfolding row_low row_high
    row-asked-of seeded =
        let i = q.row.slot in
        let h : q.row.slot < 256 = omega arith in
        within_same refl refl (first_count i h refl)
        (tight-first (ltb i (n * 32)) (is_first q i) (get_or lows (spot_of types i) 0) (get_or highs (spot_of types i) 0) q.row.low q.row.high (tally (v i) 8) (at i h)
        (and_both (ltb 0 q.seeds) (eqb i i) (lt-ltb 0 q.seeds seeded) (eq-eqb i i refl)))
