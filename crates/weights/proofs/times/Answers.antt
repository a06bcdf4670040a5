use native.Mathlib.Omega.{arith}
use borrow.Author.Count.{below_more}
use Rattle.weights.proofs.LackLaws.{times_more, times-one}
use borrow.Author.Rules.{rules}
use Rattle.weights.proofs.times.Goals as goal

pub loop-c-init : goal.loop-c-init
loop-c-init c = (search (rules), omega arith, times-one _ c.requires.0)

pub returns-then-x-z : goal.returns-then-x-z
returns-then-x-z c = (omega arith, c.loop-c.invariant.2)

pub loop-c-preserved : goal.loop-c-preserved
loop-c-preserved c = let l = c.loop-c in
    (times_more _ l.c _ l.z _ l.invariant.0 c.from-z.ensures, search rules, below_more _ _ l.invariant.2 (omega arith))

pub returns : goal.returns
returns c = (omega arith, λ e h. c.loop-c.invariant.2 e (omega arith))
