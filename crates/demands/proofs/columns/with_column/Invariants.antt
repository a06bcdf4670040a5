use Rattle.std.specs.Prelude.{Some}
use Rattle.demands.specs.Wishes.{Sharpens}
use Rattle.clashes.specs.Sources.{SourcesKept}
use Rattle.demands.specs.Families.{SourcesWithin}
use Rattle.demands.proofs.columns.with_column.Given as goal

abbrev pub invariant-loop-p : goal.invariant-loop-p
invariant-loop-p l = Sharpens (λ w. SourcesKept l.tables.sources w × SourcesWithin l.asked.slot l.asked.from l.to l.asked.least l.asked.most w) l.s (Some l.fn.best) (Some l.best)
