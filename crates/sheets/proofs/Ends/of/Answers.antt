use native.Mathlib.Omega.{arith}
use Rattle.sheets.proofs.Ends.of.Goals as goal

pub invariant_of-result : goal.invariant_of-result
invariant_of-result c = record { few = c.args.by.now.new.now.held.counts.associations; known = omega (arith, c.args.by.now.old.now.held.counts.types) }
