use mathlib.Core.Path.{◌≡◌}
use Rattle.compiling.specs.Compiled.{written}
use Rattle.compiling.proofs.list_bytes.Given as goal

abbrev pub invariant-loop-i : goal.invariant-loop-i
invariant-loop-i l = l.list ≡ written l.e l.i
