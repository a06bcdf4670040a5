-- The columns of a net are within their limits exactly when the sources of each target are within the associations' and the query's.
-- Assumes nothing.
use Prim.Native.Nat.{◌<◌, ℕ}
use native.Mathlib.Omega.{arith}
use mathlib.Core.Bool.{Bool, ◌&&◌, false, true}
use mathlib.Core.List.{List}
use mathlib.Core.Path.{◌≡◌, ap, refl, subst, sym}
use borrow.Author.Tests.{eqb-true, lt-ltb, ltb-false, ltb-true}
use lib.Dec.{eqb, ltb}
use Rattle.laws.specs.Bounded.{tally}
use Rattle.laws.proofs.ConnectiveLaws.{and_both, and_left, and_right}
use Rattle.laws.proofs.CountLaws.{tally-le}
use Rattle.link_search.specs.Nets.{Net, InLimits}
use Rattle.link_search.specs.Families.{ColumnFits, ColumnKept, Columns, column_in, source}
use Rattle.link_search.specs.declared.asked.Column.{Column}
use Rattle.link_search.specs.declared.asked.Limits.{Limits}
use Rattle.worlds.specs.declared.Lines.{Lines}
use Rattle.worlds.specs.declared.Query.{Query}
use Rattle.worlds.specs.Kept.{ColumnsKept}
use Rattle.worlds.specs.Asked.{source_asked}
use Rattle.leaves.specs.Fitting.{typed}
use Rattle.leaves.specs.Arrays.{ColumnAsk, ColumnsAsk}
use Rattle.leaves.proofs.NetCountLaws.{Agree, column-count}
use Rattle.leaves.proofs.RetypedLaws.{made}
use Rattle.leaves.proofs.WithinLaws.{asked-at, asked_of, within_same}
use Rattle.worlds.specs.Lined.{column_at}

module _ (types : List ℕ) (n : ℕ) (link : ℕ → ℕ → ℕ → Bool) (v : Net) (g : Agree n link v) where
  -- a column fits exactly when the number of sources of each target that it asks lies within the limits
  module _ (slot from : ℕ) (l : Limits) (asked : ℕ → Bool) (c : Column) (asks : ColumnAsk slot from l types n asked c) (p : ℕ) (hp : p < 8) where
    abbrev sources : ℕ
    sources = tally (λ o. typed types from o && link slot o p) n

    count : tally (source c v p) 8 ≡ sources
    count = column-count n types link v g c p slot from asks.slot-is hp asks.from-are

    fits_of : (asked p ≡ true → InLimits l.low l.high sources) → ColumnFits c v p
    fits_of f =
        within_same (sym (asks.low p hp)) (sym (asks.high p hp)) refl
        (asked_of (asked p) l.low l.high (tally (source c v p) 8) (tally-le (source c v p) 8) (λ e. within_same refl refl (sym count) (f e)))

    fits_at : ColumnFits c v p → asked p ≡ true → InLimits l.low l.high sources
    fits_at f e = within_same refl refl count (asked-at (asked p) l.low l.high (tally (source c v p) 8) (within_same (asks.low p hp) (asks.high p hp) refl f) e)

  module _ (x : Lines) (q : Query) (cs : List Column) (asks : ColumnsAsk x q types n cs) where
    -- the limits by the query
    abbrev ColumnAsked : Type 0
    ColumnAsked = 0 < q.seeds → InLimits q.column.least q.column.most (tally (source_asked q (made n types link)) n)

    abbrev line_asked : ℕ → ℕ → Bool
    line_asked j p = ltb p n && typed types (column_at x j).to p

    abbrev query_asked : ℕ → Bool
    query_asked p = ltb 0 q.seeds && eqb p 0

    pub columns_of : ColumnsKept x (made n types link) → ColumnAsked → Columns cs v
    columns_of k c = record { at = λ j hj. go j hj (ltb j 16) refl }
      where
        line : (j : ℕ) → j < 16 → ColumnKept (column_in cs j) v
        line j hj p hp =
            fits_of (column_at x j).slot (column_at x j).from (record { low = (column_at x j).low; high = (column_at x j).high }) (line_asked j) (column_in cs j) (asks.line j hj) p hp (λ e.
            k.at j p hj (ltb-true p n (and_left (ltb p n) _ e)) (and_right (ltb p n) (typed types (column_at x j).to p) e))

        query : ColumnKept (column_in cs 16) v
        query p hp =
            fits_of q.column.slot q.column.from (record { low = q.column.least; high = q.column.most }) query_asked (column_in cs 16) asks.query p hp (λ e.
            let first : p ≡ 0 = eqb-true p 0 (and_right (ltb 0 q.seeds) (eqb p 0) e) in
            within_same refl refl (ap (λ (y : ℕ). tally (λ o. typed types q.column.from o && link q.column.slot o y) n) (sym first))
            (c (ltb-true 0 q.seeds (and_left (ltb 0 q.seeds) _ e))))

        go : (j : ℕ) → j < 17 → (b : Bool) → ltb j 16 ≡ b → ColumnKept (column_in cs j) v
        go j hj true z = line j (ltb-true j 16 z)
        go j hj false z =
            let m = ltb-false j 16 z in
            let e : 16 ≡ j = omega arith in subst (λ (i : ℕ). ColumnKept (column_in cs i) v) e query

    module _ (w : Columns cs v) where
      pub columns-kept : ColumnsKept x (made n types link)
      columns-kept = record {
        at = λ j p hj hp e.
            let h : p < 8 = omega (arith, g.few) in
            fits_at (column_at x j).slot (column_at x j).from (record { low = (column_at x j).low; high = (column_at x j).high }) (line_asked j) (column_in cs j) (asks.line j hj) p h (w.at j (omega arith) p h)
            (and_both (ltb p n) _ (lt-ltb p n hp) e);
      }

      pub column-asked-of : ColumnAsked
      column-asked-of seeded =
          fits_at q.column.slot q.column.from (record { low = q.column.least; high = q.column.most }) query_asked (column_in cs 16) asks.query 0 (omega arith) (w.at 16 (omega arith) 0 (omega arith))
          (and_both (ltb 0 q.seeds) _ (lt-ltb 0 q.seeds seeded) refl)
