use native.Mathlib.Omega.{arith}
use mathlib.Core.List.{◌++◌}
use lib.ListN.{length-append}
use Rattle.coding.proofs.PutLaws.{puts-nothing, puts-both}
use Rattle.coding.proofs.put.Goals as goal

pub returns-then-out-xs : goal.returns-then-out-xs
returns-then-out-xs c =
    let a = c.args in
    puts-nothing (a.xs.now ++ a.ys.now) a.out.now (omega (arith, length-append a.xs.now a.ys.now))

pub returns-then-out-xs-2 : goal.returns-then-out-xs-2
returns-then-out-xs-2 c =
    let a = c.args in
    puts-nothing (a.xs.now ++ a.ys.now) a.out.now (omega (arith, length-append a.xs.now a.ys.now))

pub returns : goal.returns
returns c =
    let a = c.args in
    let k = c.copy-n.ensures in
    let l = c.copy-m.ensures in
    puts-both a.xs.now a.ys.now a.out.now _ _ _ _ (omega arith) k.0 k.1 l.0 l.1
