use native.Mathlib.Omega.{arith}
use mathlib.Core.Path.{ap, ◌∙◌}
use lib.ListN.{length, length-drop}
use Rattle.cases.proofs.rows.print_runs.Goals as goal

pub loop-rest-smaller-then-k-gt2 : goal.loop-rest-smaller-then-k-gt2
loop-rest-smaller-then-k-gt2 c =
    let s = c.loop-rest.rest.now in
    let k = c.alike-k.result in
    let e = ap length c.past-behind.ensures ∙ length-drop 1 s in
    omega (arith, ap length c.past-rest.ensures, length-drop k c.past-behind.result.now, e)

pub loop-rest-smaller : goal.loop-rest-smaller
loop-rest-smaller c =
    let s = c.loop-rest.rest.now in
    omega (arith, ap length c.past-behind.ensures ∙ length-drop 1 s)
