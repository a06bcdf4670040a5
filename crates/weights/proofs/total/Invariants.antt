use Prim.Native.Nat.{◌*◌, ◌≤◌}
use mathlib.Core.Path.{◌≡◌}
use lib.ListN.{get_or}
use Rattle.weights.specs.Numbers.{number_at}
use Rattle.weights.specs.Sums.{sum}
use Rattle.weights.proofs.total.Given as goal

abbrev pub invariant-loop-o : goal.invariant-loop-o
invariant-loop-o l = (l.n ≤ 255 * l.o) × (l.n ≡ sum (λ i. number_at l.tables.targets l.tables.lows l.tables.highs l.tables.lines.wholes l.w i (get_or l.types.at i 0)) l.o)
