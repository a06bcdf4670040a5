use mathlib.Core.Path.{◌∙◌}
use native.Mathlib.Omega.{arith}
use Rattle.diagrams.specs.View.{association_in}
use Rattle.entries.proofs.AppendLaws.{appends-as, appends-none, one-as}
use Rattle.compiling.proofs.TableLaws.{whole-no, whole-yes}
use Rattle.compiling.proofs.push_whole.Goals as goal

pub returns-then-a-i-eq1 : goal.returns-then-a-i-eq1
unfolding association_in
returns-then-a-i-eq1 c = let a = c.args in
    (appends-as c.push.ensures.0 (one-as c.bare.ensures ∙ whole-yes a.i (association_in a.a.now a.i) c.if-a-i-eq1.true), omega arith)

pub returns-else-a-i-eq1 : goal.returns-else-a-i-eq1
unfolding association_in
returns-else-a-i-eq1 c = let a = c.args in
    (appends-as (appends-none a.r.now) (whole-no a.i (association_in a.a.now a.i) c.if-a-i-eq1.false), omega arith)
