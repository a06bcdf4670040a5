use Rattle.std.specs.Prelude.{Some}
use Rattle.worlds.specs.Kept.{ColumnsKept}
use Rattle.demands.specs.Wishes.{Sharpens}
use Rattle.clashes.specs.Sources.{SourcesKept}
use Rattle.demands.proofs.columns.with_columns.Given as goal

abbrev pub invariant-loop-j : goal.invariant-loop-j
invariant-loop-j l = Sharpens (λ w. SourcesKept l.tables.sources w × ColumnsKept l.tables.lines w) l.s (Some l.fn.best) (Some l.best)
