use Rattle.std.specs.Prelude.{Some}
use Rattle.demands.specs.Wishes.{Sharpens}
use Rattle.demands.specs.Families.{RowsOpen}
use Rattle.demands.proofs.rows.with_rows_of.Given as goal

abbrev pub invariant-loop-i : goal.invariant-loop-i
invariant-loop-i l = Sharpens (RowsOpen l.tables.targets l.tables.lows l.tables.highs l.shut) l.s (Some l.fn.best) (Some l.best)
