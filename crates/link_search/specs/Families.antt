-- What is asked of a net, by family: the limits of rows and of columns, mirrors, wholes. `Fits` asks for all.
-- Assumes nothing.
use Rattle.std.specs.Prelude.{ℕ, ◌+◌, ◌*◌, ◌≤◌, ◌<◌, ◌≡◌, Bool, true, ◌&&◌, List, get_or, replicate}
use native.Mathlib.Omega.{arith}
use Rattle.laws.specs.Bits.{bit}
use Rattle.laws.specs.Bounded.{any, tally}
use Rattle.link_search.specs.Nets.{Net, InLimits}
use Rattle.link_search.specs.declared.asked.Limits.{Limits}
use Rattle.link_search.specs.declared.asked.Column.{Column}
use Rattle.link_search.specs.declared.asked.Mirror.{Mirror}
use Rattle.link_search.specs.declared.asked.Whole.{Whole}
use Rattle.link_search.specs.declared.asked.NetConstraints.{NetConstraints}

-- ---- the entries of arrays; past their ends stand zeros

abbrev pub no_limits : Limits
no_limits = record { low = 0; high = 0 }

abbrev pub limits_at : List Limits → ℕ → Limits
limits_at xs i = get_or xs i no_limits

abbrev pub column_in : List Column → ℕ → Column
column_in xs j = get_or xs j (record { slot = 0; from = 0; limits = replicate 8 no_limits; slotted = omega arith })

abbrev pub mirror_in : List Mirror → ℕ → Mirror
mirror_in xs j = get_or xs j (record { right = 0; left = 0; from = 0; to = 0; slotted_right = omega arith; slotted_left = omega arith })

abbrev pub whole_in : List Whole → ℕ → Whole
whole_in xs j = get_or xs j (record { slot = 0; from = 0; to = 0; slotted = omega arith })

-- ---- families

-- n lies within limits
abbrev pub Within : Limits → ℕ → Type 0
Within l n = InLimits l.low l.high n

-- the number of targets of each row lies within its limits
pub record RowsFit (rows : List Limits) (w : Net) : Type 0 where
  pub at : (i : ℕ) → i < 256 → Within (limits_at rows i) (tally (w i) 8)

-- o is a source of target p by a column: one of its objects, with a link by its slot
abbrev pub source : Column → Net → ℕ → ℕ → Bool
source c w p o = bit o c.from && w (o * 32 + c.slot) p

-- the number of sources of target p by a column lies within its limits
abbrev pub ColumnFits : Column → Net → ℕ → Type 0
ColumnFits c w p = Within (limits_at c.limits p) (tally (source c w p) 8)

-- so it is for each target
abbrev pub ColumnKept : Column → Net → Type 0
ColumnKept c w = (p : ℕ) → p < 8 → ColumnFits c w p

-- and for each of 17 columns
pub record Columns (columns : List Column) (w : Net) : Type 0 where
  pub at : (j : ℕ) → j < 17 → ColumnKept (column_in columns j) w

-- the link from o to p by a mirror stands exactly when the link back does
abbrev pub MirrorHolds : Mirror → Net → ℕ → ℕ → Type 0
MirrorHolds m w o p = bit o m.from ≡ true → bit p m.to ≡ true → w (o * 32 + m.right) p ≡ w (p * 32 + m.left) o

-- so it is for all objects
abbrev pub MirrorKept : Mirror → Net → Type 0
MirrorKept m w = (o p : ℕ) → o < 8 → p < 8 → MirrorHolds m w o p

-- and for each of 16 mirrors
pub record Mirrors (mirrors : List Mirror) (w : Net) : Type 0 where
  pub at : (j : ℕ) → j < 16 → MirrorKept (mirror_in mirrors j) w

-- o has p as a part by a composition
abbrev pub part : Whole → Net → ℕ → ℕ → Bool
part c w p o = bit o c.from && bit p c.to && w (o * 32 + c.slot) p

-- o has p as a part by one of 16 compositions
unfoldable pub whole : List Whole → Net → ℕ → ℕ → Bool
whole wholes w p o = any (λ j. part (whole_in wholes j) w p o) 16

-- each object is a part of at most one
pub record Wholes (wholes : List Whole) (w : Net) : Type 0 where
  pub at : (p : ℕ) → p < 8 → tally (whole wholes w p) 8 ≤ 1

-- everything that is asked
pub record Fits (a : NetConstraints) (w : Net) : Type 0 where
  pub rows : RowsFit a.rows w
  pub columns : Columns a.columns w
  pub mirrors : Mirrors a.mirrors w
  pub wholes : Wholes a.wholes w
