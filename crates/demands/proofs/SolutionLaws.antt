-- What a solution keeps, family by family: what one family sharpens, a solution sharpens.
-- Assumes nothing.
use Rattle.std.specs.Prelude.{Option}
use Prim.Native.Nat.{ℕ}
use mathlib.Core.List.{List}
use Rattle.growing.specs.World.{World}
use Rattle.worlds.specs.declared.Query.{Query}
use Rattle.worlds.specs.Asked.{Satisfies, Solution}
use Rattle.worlds.specs.Coherent.{SourceTable}
use Rattle.worlds.specs.Kept.{Allowed, ColumnsKept, Sheet, SinglesKept, WholesKept, sheet}
use Rattle.demands.specs.declared.Start.{Start}
use Rattle.demands.specs.Wishes.{Sharpens}
use Rattle.clashes.specs.Sources.{SourcesKept}
use Rattle.clashes.proofs.SolutionLaws.{sources-kept}
use Rattle.demands.specs.Families.{RowsOpen}
use Rattle.demands.proofs.NeedLaws.{sharp-from, sharp-trans}

module _ (x : Sheet) (q : Query) (n : ℕ) where
  pub rows-open : (w : World) → Solution x q n w → RowsOpen x.targets x.lows x.highs q.shut w
  rows-open w s = record { rows = s.allowed.rows; apart = s.asked.shut }

  module _ (s : Start) (a b : Option ℕ) where
    pub by-singles : Sharpens (SinglesKept x.singles) s a b → Sharpens (Solution x q n) s a b
    by-singles = sharp-from s a b (λ w _ h. h.allowed.singles)

    pub by_rows : Sharpens (RowsOpen x.targets x.lows x.highs q.shut) s a b → Sharpens (Solution x q n) s a b
    by_rows = sharp-from s a b (λ w _ h. rows-open w h)

    pub by-wholes : Sharpens (λ w. ColumnsKept x.lines w × WholesKept x.lines w) s a b → Sharpens (Solution x q n) s a b
    by-wholes = sharp-from s a b (λ w _ h. (h.allowed.columns, h.allowed.wholes))

    pub by_weights : ((usable singles : ℕ) → Sharpens (λ w. Allowed (sheet usable singles x.targets x.lows x.highs x.lines) w × Satisfies q w) s a b)
        → Sharpens (Solution x q n) s a b
    by_weights f = sharp-from s a b (λ w _ h. (h.allowed, h.asked)) (f x.usable x.singles)

    module _ (sources : List ℕ) (turned : SourceTable x.targets sources) where
      pub by-columns : Sharpens (λ w. SourcesKept sources w × ColumnsKept x.lines w) s a b → Sharpens (Solution x q n) s a b
      by-columns = sharp-from s a b (λ w _ h. (sources-kept x q n sources turned w h, h.allowed.columns))

      pub by-own : Sharpens (λ w. RowsOpen x.targets x.lows x.highs q.shut w × SourcesKept sources w × Satisfies q w) s a b
          → Sharpens (Solution x q n) s a b
      by-own = sharp-from s a b (λ w _ h. (rows-open w h, sources-kept x q n sources turned w h, h.asked))

-- the families one after the other: what each sharpens, from what a solution starts with
module _ (x : Sheet) (q : Query) (n : ℕ) (sources : List ℕ) (turned : SourceTable x.targets sources) (s : Start) {free single : Option ℕ}
    (singles : Sharpens (SinglesKept x.singles) s free single) where
  pub to-row : {row : Option ℕ} → Sharpens (RowsOpen x.targets x.lows x.highs q.shut) s single row → Sharpens (Solution x q n) s free row
  to-row rows = sharp-trans _ _ _ _ (by-singles x q n s _ _ singles) (by_rows x q n s _ _ rows)

  module _ {row : Option ℕ} (rows : Sharpens (RowsOpen x.targets x.lows x.highs q.shut) s single row) where
    pub to-column : {column : Option ℕ} → Sharpens (λ w. SourcesKept sources w × ColumnsKept x.lines w) s row column → Sharpens (Solution x q n) s free column
    to-column columns = sharp-trans _ _ _ _ (to-row rows) (by-columns x q n s _ _ sources turned columns)

    module _ {column : Option ℕ} (columns : Sharpens (λ w. SourcesKept sources w × ColumnsKept x.lines w) s row column) where
      pub to-part : {part : Option ℕ} → Sharpens (λ w. ColumnsKept x.lines w × WholesKept x.lines w) s column part → Sharpens (Solution x q n) s free part
      to-part wholes = sharp-trans _ _ _ _ (to-column columns) (by-wholes x q n s _ _ wholes)

      module _ {part : Option ℕ} (wholes : Sharpens (λ w. ColumnsKept x.lines w × WholesKept x.lines w) s column part) where
        pub to-own : {own : Option ℕ} → Sharpens (λ w. RowsOpen x.targets x.lows x.highs q.shut w × SourcesKept sources w × Satisfies q w) s part own → Sharpens (Solution x q n) s free own
        to-own asked = sharp-trans _ _ _ _ (to-part wholes) (by-own x q n s _ _ sources turned asked)

        pub to-weights : {own r : Option ℕ} → Sharpens (λ w. RowsOpen x.targets x.lows x.highs q.shut w × SourcesKept sources w × Satisfies q w) s part own
            → ((usable singles : ℕ) → Sharpens (λ w. Allowed (sheet usable singles x.targets x.lows x.highs x.lines) w × Satisfies q w) s own r) → Sharpens (Solution x q n) s free r
        to-weights asked weights = sharp-trans _ _ _ _ (to-own asked) (by_weights x q n s _ _ weights)
