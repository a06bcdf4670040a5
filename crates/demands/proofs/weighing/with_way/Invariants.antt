use Rattle.std.specs.Prelude.{Some}
use Rattle.demands.proofs.WeightLaws.{Weighed}
use Rattle.demands.proofs.weighing.with_way.Given as goal

abbrev pub invariant-loop-j : goal.invariant-loop-j
invariant-loop-j l = Weighed l.tables.targets l.tables.lows l.tables.highs l.tables.lines l.q l.s (Some l.fn.best) (Some l.best)
