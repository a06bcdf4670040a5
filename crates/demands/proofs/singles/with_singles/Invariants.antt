use Rattle.std.specs.Prelude.{Some}
use Rattle.worlds.specs.Kept.{SinglesKept}
use Rattle.demands.specs.Wishes.{Sharpens}
use Rattle.demands.proofs.singles.with_singles.Given as goal

abbrev pub invariant-loop-t : goal.invariant-loop-t
invariant-loop-t l = Sharpens (SinglesKept l.singles) l.s (Some l.fn.best) (Some l.best)
