use mathlib.Core.Path.{◌≡◌, ◌∙◌}
use native.Mathlib.Omega.{arith}
use Rattle.compiling.proofs.ByteLaws.{bytes-begin, bytes-end}
use Rattle.compiling.proofs.list_bytes.Goals as goal

pub loop-i-init : goal.loop-i-init
loop-i-init c = bytes-begin c.args.e

pub loop-i-preserved : goal.loop-i-preserved
loop-i-preserved c = c.put_entry.ensures

pub returns : goal.returns
returns c = let n : c.loop-i.i ≡ 64 = omega arith in
    c.loop-i.invariant ∙ bytes-end c.args.e c.loop-i.i n
