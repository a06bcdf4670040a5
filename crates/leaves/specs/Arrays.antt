-- What a sheet and a query ask of the links of n objects with given types, by object. A row is `object * 32 + slot`.
-- Assumes nothing.
use Rattle.std.specs.Prelude.{◌%◌, ◌*◌, ◌+◌, ◌/◌, ◌<◌, ◌≤◌, max, min, ℕ, Bool, ◌&&◌, cond, not, List, ◌≡◌, eqb, ltb, get_or}
use Rattle.laws.specs.Bits.{Marks, bit}
use Rattle.laws.specs.Bounded.{all}
use Rattle.laws.specs.Connective.{imp}
use Rattle.link_search.specs.Families.{column_in, limits_at, mirror_in, whole_in}
use Rattle.link_search.specs.declared.asked.NetConstraints.{NetConstraints}
use Rattle.link_search.specs.declared.asked.Column.{Column}
use Rattle.link_search.specs.declared.asked.Limits.{Limits}
use Rattle.link_search.specs.declared.asked.Mirror.{Mirror}
use Rattle.link_search.specs.declared.asked.Whole.{Whole}
use Rattle.worlds.specs.declared.Lines.{Lines}
use Rattle.worlds.specs.declared.Query.{Query}
use Rattle.worlds.specs.Lined.{column_at, mirror_at, whole_at}
use Rattle.leaves.specs.Fitting.{typed}

-- ---- rows

-- where a table by types and slots has row i
abbrev pub spot_of : List ℕ → ℕ → ℕ
spot_of types i = get_or types (i / 32) 0 * 32 + i % 32

-- row i may go to object p: to its type, and the query does not shut it
abbrev pub may_go : List ℕ → List ℕ → List ℕ → ℕ → ℕ → Bool
may_go targets types shut i p = typed types (get_or targets (spot_of types i) 0) p && not (bit p (get_or shut i 0))

-- the objects that row i may go to; past the n objects, none
pub record RowMay (targets types : List ℕ) (n : ℕ) (shut : List ℕ) (i v : ℕ) : Type 0 where
  pub done : i < n * 32 → Marks (may_go targets types shut i) n v
  pub rest : n * 32 ≤ i → v ≡ 0

abbrev pub Mays : List ℕ → List ℕ → ℕ → List ℕ → List ℕ → Type 0
Mays targets types n shut r = (i : ℕ) → i < 256 → RowMay targets types n shut i (get_or r i 0)

-- the bits of a are bits of b
unfoldable pub covered : ℕ → ℕ → Bool
covered a b = all (λ k. imp (bit k a) (bit k b)) 8

-- so it is at each row
unfoldable pub all_covered : List ℕ → List ℕ → Bool
all_covered must may = all (λ i. covered (get_or must i 0) (get_or may i 0)) 256

-- the limit of row i by a table; past the n objects, d
abbrev pub row_by : List ℕ → List ℕ → ℕ → ℕ → ℕ → ℕ
row_by table types n d i = cond (ltb i (n * 32)) (get_or table (spot_of types i) 0) d

-- row i is the first seed's that the query asks about
abbrev pub is_first : Query → ℕ → Bool
is_first q i = ltb 0 q.seeds && eqb i q.row.slot

-- the limits of row i: the tables', and the query's besides for the first seed's row
unfoldable pub row_low : List ℕ → List ℕ → ℕ → Query → ℕ → ℕ
row_low lows types n q i = cond (is_first q i) (max (row_by lows types n 0 i) q.row.low) (row_by lows types n 0 i)

unfoldable pub row_high : List ℕ → List ℕ → ℕ → Query → ℕ → ℕ
row_high highs types n q i = cond (is_first q i) (min (row_by highs types n 8 i) q.row.high) (row_by highs types n 8 i)

pub record RowAsk (lows highs types : List ℕ) (n : ℕ) (q : Query) (i : ℕ) (l : Limits) : Type 0 where
  pub low : l.low ≡ row_low lows types n q i
  pub high : l.high ≡ row_high highs types n q i

abbrev pub RowsAsk : List ℕ → List ℕ → List ℕ → ℕ → Query → List Limits → Type 0
RowsAsk lows highs types n q r = (i : ℕ) → i < 256 → RowAsk lows highs types n q i (limits_at r i)

-- ---- columns, mirrors and wholes

-- a column with the same limits for all targets that it asks
pub record ColumnAsk (slot from : ℕ) (l : Limits) (types : List ℕ) (n : ℕ) (asked : ℕ → Bool) (c : Column) : Type 0 where
  pub slot-is : c.slot ≡ slot
  pub from-are : Marks (typed types from) n c.from
  pub low : (p : ℕ) → p < 8 → (limits_at c.limits p).low ≡ cond (asked p) l.low 0
  pub high : (p : ℕ) → p < 8 → (limits_at c.limits p).high ≡ cond (asked p) l.high 8

-- association j's column
abbrev pub LineAsk : Lines → List ℕ → ℕ → ℕ → Column → Type 0
LineAsk x types n j =
    ColumnAsk (column_at x j).slot (column_at x j).from (record { low = (column_at x j).low; high = (column_at x j).high }) types n (λ p. ltb p n && typed types (column_at x j).to p)

-- the query's: it asks of the first seed, if there is one
abbrev pub QueryAsk : Query → List ℕ → ℕ → Column → Type 0
QueryAsk q types n = ColumnAsk q.column.slot q.column.from (record { low = q.column.least; high = q.column.most }) types n (λ p. ltb 0 q.seeds && eqb p 0)

pub record ColumnsAsk (x : Lines) (q : Query) (types : List ℕ) (n : ℕ) (r : List Column) : Type 0 where
  pub line : (j : ℕ) → j < 16 → LineAsk x types n j (column_in r j)
  pub query : QueryAsk q types n (column_in r 16)

-- association j's mirror
pub record MirrorAsk (x : Lines) (types : List ℕ) (n j : ℕ) (m : Mirror) : Type 0 where
  pub right-is : m.right ≡ (mirror_at x j).right
  pub left-is : m.left ≡ (mirror_at x j).left
  pub from-are : Marks (typed types (mirror_at x j).from) n m.from
  pub to-are : Marks (typed types (mirror_at x j).to) n m.to

abbrev pub MirrorsAsk : Lines → List ℕ → ℕ → List Mirror → Type 0
MirrorsAsk x types n r = (j : ℕ) → j < 16 → MirrorAsk x types n j (mirror_in r j)

-- association j's wholes
pub record WholeAsk (x : Lines) (types : List ℕ) (n j : ℕ) (w : Whole) : Type 0 where
  pub slot-is : w.slot ≡ (whole_at x j).slot
  pub from-are : Marks (typed types (whole_at x j).from) n w.from
  pub to-are : Marks (typed types (whole_at x j).to) n w.to

abbrev pub WholesAsk : Lines → List ℕ → ℕ → List Whole → Type 0
WholesAsk x types n r = (j : ℕ) → j < 16 → WholeAsk x types n j (whole_in r j)

-- ---- all that a search for links is asked

pub record Prepared (targets lows highs : List ℕ) (x : Lines) (q : Query) (types : List ℕ) (n : ℕ) (may : List ℕ) (a : NetConstraints) : Type 0 where
  pub mays : Mays targets types n q.shut may
  pub rows : RowsAsk lows highs types n q a.rows
  pub columns : ColumnsAsk x q types n a.columns
  pub mirrors : MirrorsAsk x types n a.mirrors
  pub wholes : WholesAsk x types n a.wholes
