use Rattle.compiling.specs.Compiled.{Gathered}
use Rattle.compiling.proofs.compile_entries.Given as goal

abbrev pub invariant-loop-i : goal.invariant-loop-i
invariant-loop-i l = Gathered l.d.stored.associations l.i l.r
