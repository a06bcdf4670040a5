use Rattle.std.specs.Prelude.{Some}
use Rattle.worlds.specs.Kept.{ColumnsKept, WholesKept}
use Rattle.demands.specs.Wishes.{Sharpens}
use Rattle.demands.proofs.parts.with_wholes.Given as goal

abbrev pub invariant-loop-p : goal.invariant-loop-p
invariant-loop-p l = Sharpens (λ w. ColumnsKept l.tables.lines w × WholesKept l.tables.lines w) l.s (Some l.fn.best) (Some l.best)
