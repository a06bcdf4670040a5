-- What the search asks of its tables: old's own, and new's by old's types and role slots.
-- Assumes nothing.
use Rattle.std.specs.Prelude.{ℕ, List}
use Rattle.files.specs.Diagram.{Diagram}
use Rattle.worlds.specs.Kept.{sheet}
use Rattle.worlds.specs.Tables.{SheetOf}
use Rattle.worlds.specs.declared.Others.{Others}
use Rattle.worlds.specs.declared.Tables.{Tables}
use Rattle.narrowing.specs.Narrow.{Narrows}
use Rattle.differing.specs.Others.{TablesOf}

-- the tables are old's own, with a table of targets that allows the same worlds in the place of its own
pub record Ready (old new : Diagram) (t : Tables) (o : Others) : Type 0 where
  pub own : List ℕ
  pub sheet-is : SheetOf old (sheet t.usable t.singles own t.lows t.highs t.lines)
  pub narrow-is : Narrows (sheet t.usable t.singles own t.lows t.highs t.lines) t.targets
  pub others-are : TablesOf old new o.bad o.singles o.missing o.targets o.lows o.highs o.lines
