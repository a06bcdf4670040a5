-- Worlds that keep what tables ask for, by types and role slots. The tables are numbers and masks; they know no diagram. Which tables
-- a diagram has is said in Tables.
-- Assumes nothing.
use Rattle.std.specs.Prelude.{◌*◌, ◌+◌, ◌<◌, ◌≤◌, ℕ, Bool, ◌&&◌, false, true, List, ◌≡◌, eqb, ltb, get_or}
use Rattle.laws.specs.Bits.{bit}
use Rattle.laws.specs.Bounded.{any, tally}
use Rattle.records.specs.declared.MemoryRecord.{MemoryRecord}
use Rattle.growing.specs.World.{World, target_count}
use Rattle.link_search.specs.Nets.{InLimits, net_of}
use Rattle.worlds.specs.declared.Lines.{Lines}
use Rattle.worlds.specs.declared.Others.{Others}
use Rattle.worlds.specs.declared.Tables.{Tables}
use Rattle.worlds.specs.Lined.{column_at, mirror_at, whole_at}

-- the world of n objects whose types and rows of links stand in arrays, as in a record in memory
unfoldable pub world_in : ℕ → List ℕ → List ℕ → World
world_in n types rows =
    record { size = n; kind = λ o. get_or types o 0; link = λ s o p. ltb s 32 && (ltb o 8 && (ltb p 8 && net_of rows (o * 32 + s) p)) }

abbrev pub world_of : MemoryRecord → World
world_of m = world_in m.count m.types m.links

-- no object has a type of the mask
pub record TypesAvoided (mask : ℕ) (w : World) : Type 0 where
  pub at : (o : ℕ) → o < w.size → bit (w.kind o) mask ≡ false

-- each type of the mask has exactly one object
pub record SinglesKept (singles : ℕ) (w : World) : Type 0 where
  pub at : (t : ℕ) → t < 24 → bit t singles ≡ true → tally (λ o. eqb (w.kind o) t) w.size ≡ 1

-- the links of object o in slot s go to types of the mask at `type of o` * 32 + s, and their number lies within the limits there
pub record RowsKept (targets lows highs : List ℕ) (w : World) : Type 0 where
  pub allowed : (s o p : ℕ) → s < 32 → o < w.size → p < w.size → w.link s o p ≡ true → bit (w.kind p) (get_or targets (w.kind o * 32 + s) 0) ≡ true
  pub limited : (s o : ℕ) → s < 32 → o < w.size
      → InLimits (get_or lows (w.kind o * 32 + s) 0) (get_or highs (w.kind o * 32 + s) 0) (target_count w s o)

-- o counts as a source of p by column j
abbrev pub source_by : Lines → World → ℕ → ℕ → ℕ → Bool
source_by x w j p o = bit (w.kind o) (column_at x j).from && w.link (column_at x j).slot o p

-- the number of sources of each target that is asked lies within the limits
pub record ColumnsKept (x : Lines) (w : World) : Type 0 where
  pub at : (j p : ℕ) → j < 16 → p < w.size → bit (w.kind p) (column_at x j).to ≡ true
      → InLimits (column_at x j).low (column_at x j).high (tally (source_by x w j p) w.size)

-- a link stands exactly when the link back does
pub record MirrorsKept (x : Lines) (w : World) : Type 0 where
  pub at : (j o p : ℕ) → j < 16 → o < w.size → p < w.size → bit (w.kind o) (mirror_at x j).from ≡ true → bit (w.kind p) (mirror_at x j).to ≡ true
      → w.link (mirror_at x j).right o p ≡ w.link (mirror_at x j).left p o

-- o is a whole of p by association j, by some association
abbrev pub whole_by : Lines → World → ℕ → ℕ → ℕ → Bool
whole_by x w p o j = bit (w.kind o) (whole_at x j).from && (bit (w.kind p) (whole_at x j).to && w.link (whole_at x j).slot o p)

unfoldable pub whole_of : Lines → World → ℕ → ℕ → Bool
whole_of x w p o = any (whole_by x w p o) 16

-- each object is a part of at most one
pub record WholesKept (x : Lines) (w : World) : Type 0 where
  pub at : (p : ℕ) → p < w.size → tally (whole_of x w p) w.size ≤ 1

-- ---- all that one diagram asks of the worlds by its own indices

pub record Sheet : Type 0 where
  pub usable : ℕ
  pub singles : ℕ
  pub targets : List ℕ
  pub lows : List ℕ
  pub highs : List ℕ
  pub lines : Lines

abbrev pub sheet : ℕ → ℕ → List ℕ → List ℕ → List ℕ → Lines → Sheet
sheet usable singles targets lows highs lines = record { usable = usable; singles = singles; targets = targets; lows = lows; highs = highs; lines = lines }

abbrev pub sheet_of : Tables → Sheet
sheet_of t = sheet t.usable t.singles t.targets t.lows t.highs t.lines

pub record Allowed (x : Sheet) (w : World) : Type 0 where
  pub few : w.size ≤ 8
  pub past : (s o p : ℕ) → 32 ≤ s → w.link s o p ≡ false
  pub inside : (s o p : ℕ) → w.link s o p ≡ true → (o < w.size) × (p < w.size)
  pub known : (o : ℕ) → o < w.size → w.kind o < 24
  pub usable : (o : ℕ) → o < w.size → bit (w.kind o) x.usable ≡ true
  pub singles : SinglesKept x.singles w
  pub rows : RowsKept x.targets x.lows x.highs w
  pub columns : ColumnsKept x.lines w
  pub mirrors : MirrorsKept x.lines w
  pub wholes : WholesKept x.lines w

-- ---- all that another diagram asks of these worlds: no object of a bad type, no singleton class that is missing among the types

pub record AllKept (bad singles : ℕ) (missing : Bool) (targets lows highs : List ℕ) (x : Lines) (w : World) : Type 0 where
  pub types : TypesAvoided bad w
  pub present : missing ≡ false
  pub singles-kept : SinglesKept singles w
  pub rows : RowsKept targets lows highs w
  pub columns : ColumnsKept x w
  pub mirrors : MirrorsKept x w
  pub wholes : WholesKept x w

abbrev pub KeepsOthers : Others → World → Type 0
KeepsOthers o w = AllKept o.bad o.singles o.missing o.targets o.lows o.highs o.lines w
