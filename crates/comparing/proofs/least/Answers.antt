use native.Mathlib.Omega.{arith}
use Rattle.comparing.proofs.SoughtLaws.{none_first, none_found, none-next, sought}
use Rattle.comparing.proofs.least.Goals as goal

pub loop-n-init : goal.loop-n-init
loop-n-init c = none_first

pub returns-in-Some : goal.returns-in-Some
returns-in-Some c = sought c.loop-n.invariant c.args.most (omega arith) c.in-Some.ensures

pub loop-n-preserved : goal.loop-n-preserved
loop-n-preserved c = none-next c.loop-n.invariant c.in_default.ensures

pub returns : goal.returns
returns c = none_found c.loop-n.invariant _ (omega (arith, c.loop-n-test.false))
