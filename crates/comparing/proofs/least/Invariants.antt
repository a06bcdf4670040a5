use Rattle.type_tables.specs.Pairs.{new_of, old_of}
use Rattle.comparing.specs.Sought.{NoneBelow}
use Rattle.comparing.proofs.least.Given as goal

abbrev pub invariant-loop-n : goal.invariant-loop-n
invariant-loop-n l = NoneBelow (old_of l.by.pair) (new_of l.by.pair) l.n
