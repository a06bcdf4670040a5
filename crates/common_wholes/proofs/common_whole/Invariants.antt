use Rattle.std.specs.Prelude.{IfSome}
use Rattle.common_wholes.specs.Common.{Common}
use Rattle.common_wholes.proofs.common_whole.Given as goal

abbrev pub invariant-loop-j : goal.invariant-loop-j
invariant-loop-j l = IfSome l.known (Common l.lines l.t)
