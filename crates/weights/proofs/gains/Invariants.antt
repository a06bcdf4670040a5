use Prim.Native.Nat.{◌<◌}
use Rattle.weights.specs.Numbers.{number_by}
use Rattle.weights.specs.Weigh.{Gains}
use Rattle.weights.proofs.gains.Given as goal

abbrev pub invariant-loop-t : goal.invariant-loop-t
invariant-loop-t l = (l.a.slot < 32) × (l.b.slot < 32) × Gains (number_by l.tables.targets l.tables.lows l.tables.highs l.tables.lines.wholes l.a l.a.limit) (number_by l.tables.targets l.tables.lows l.tables.highs l.tables.lines.wholes l.b l.b.limit) l.free l.t l.gain
