-- Pairs of weights that balance: in each world that the tables allow, the numbers a of all objects are together not above the numbers b.
-- Assumes nothing.
use Rattle.std.specs.Prelude.{◌<◌, ◌≤◌, max, min, ℕ, ◌&&◌, cond, List, None, Option, Some, ◌≡◌, eqb, ltb}
use Rattle.std.specs.Bool.{then_some}
use Rattle.std.specs.Int.Bits.{bit_and}
use Rattle.growing.specs.World.{World}
use Rattle.worlds.specs.declared.Lines.{Lines}
use Rattle.worlds.specs.declared.Query.{Query}
use Rattle.worlds.specs.Asked.{Satisfies}
use Rattle.worlds.specs.Coherent.{SourceTable}
use Rattle.worlds.specs.Kept.{Allowed, sheet}
use Rattle.weights.specs.declared.Count.TheVariants.{Flat, High, Low, Parts}
use Rattle.weights.specs.declared.Own.{Own}
use Rattle.weights.specs.declared.Scale.{Scale}
use Rattle.weights.specs.declared.Weight.{Weight}
use Rattle.weights.specs.Numbers.{in_mask, number_at}
use Rattle.weights.specs.Sums.{sum}

-- what a query asks of the first object, where it has seeds
abbrev pub own_in : Query → Own
own_in q = record { row = q.row; column = q.column }

abbrev pub own_of : Query → Option Own
own_of q = then_some (ltb 0 q.seeds) (own_in q)

-- how many targets the first object has in slot s, at least and at most
unfoldable pub row_least : Option Own → ℕ → ℕ
row_least (Some a) s = cond (eqb a.row.slot s) a.row.low 0
row_least None s = 0

unfoldable pub row_most : Option Own → ℕ → ℕ
row_most (Some a) s = cond (eqb a.row.slot s) a.row.high 255
row_most None s = 255

-- how many sources of the types `from` it has in slot s, at least and at most; only types of the mask `may` can have links to it
unfoldable pub column_least : Option Own → ℕ → ℕ → ℕ → ℕ
column_least (Some a) s from may = cond (eqb a.column.slot s && in_mask (bit_and a.column.from may) from) a.column.least 0
column_least None s from may = 0

unfoldable pub column_most : Option Own → ℕ → ℕ → ℕ → ℕ
column_most (Some a) s from may = cond (eqb a.column.slot s && in_mask (bit_and from may) a.column.from) a.column.most 255
column_most None s from may = 255

-- rows of sources `from` against columns of targets `to` with at most `high` sources
unfoldable pub rows_scale : Option Own → ℕ → ℕ → ℕ → ℕ → ℕ → Scale
rows_scale own s from to high may = record {
  a = record { count = Low to; mask = from; slot = s; limit = 0; first = row_least own s };
  b = record { count = Flat; mask = to; slot = s; limit = high; first = min high (column_most own s from may) };
}

-- columns of targets `to` with at least `low` sources against rows of sources `from`
unfoldable pub columns_scale : Option Own → ℕ → ℕ → ℕ → ℕ → ℕ → Scale
columns_scale own s from to low may = record {
  a = record { count = Flat; mask = to; slot = s; limit = low; first = max low (column_least own s from may) };
  b = record { count = High; mask = from; slot = s; limit = 255; first = row_most own s };
}

-- rows of sources `from` against the rows back of targets `to`
unfoldable pub mirror_scale : Option Own → ℕ → ℕ → ℕ → ℕ → ℕ → Scale
mirror_scale own s back from to may = record {
  a = record { count = Low to; mask = from; slot = s; limit = 0; first = row_least own s };
  b = record { count = High; mask = to; slot = back; limit = 255; first = min (row_most own back) (column_most own s from may) };
}

-- rows of wholes, of the types `from`, against parts, of the types `to`
unfoldable pub parts_scale : ℕ → ℕ → ℕ → ℕ → Scale
parts_scale slot first from to = record {
  a = record { count = Parts; mask = from; slot = slot; limit = 0; first = first };
  b = record { count = Flat; mask = to; slot = slot; limit = 1; first = 1 };
}

unfoldable pub whole_scale : Option Own → ℕ → ℕ → Scale
whole_scale (Some a) from to = parts_scale a.row.slot a.row.low from to
whole_scale None from to = parts_scale 0 0 from to

-- the numbers of the objects of a world together
abbrev pub together : List ℕ → List ℕ → List ℕ → Lines → Weight → World → ℕ
together targets lows highs x a w = sum (λ o. number_at targets lows highs x.wholes a o (w.kind o)) w.size

-- the scale balances in each world whose first object has type t and keeps what is asked of it
pub record Fair (sources : List ℕ) (x : Lines) (own : Option Own) (t : ℕ) (r : Scale) : Type 0 where
  pub low : r.a.slot < 32
  pub high : r.b.slot < 32
  pub at : (usable singles : ℕ) (targets lows highs : List ℕ) (q : Query) (w : World) → SourceTable targets sources → own ≡ own_of q
      → Allowed (sheet usable singles targets lows highs x) w → Satisfies q w → 0 < w.size → w.kind 0 ≡ t
      → together targets lows highs x r.a w ≤ together targets lows highs x r.b w
