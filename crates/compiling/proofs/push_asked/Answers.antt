use mathlib.Core.Path.{◌∙◌}
use Rattle.compiling.proofs.EntryLaws.{none-asked, five-asked, six-asked, seven-asked}
use Rattle.entries.proofs.AppendLaws.{appends-as, appends-none, one-as}
use native.Mathlib.Omega.{arith}
use Rattle.compiling.proofs.push_asked.Goals as goal

pub returns-in-0 : goal.returns-in-0
returns-in-0 c = let a = c.args in
    (appends-as (appends-none a.r.now) (none-asked a.a.now a.i a.kind a.side c.in-0.is), omega arith)

pub returns-in-1 : goal.returns-in-1
returns-in-1 c = (search (appends-as, six-asked) depth 6 fits 20000, omega arith)

pub returns-in-5 : goal.returns-in-5
returns-in-5 c = let a = c.args in
    (appends-as c.push.ensures.0 (one-as c.bare.ensures ∙ five-asked a.a.now a.i a.kind a.side c.in-5.is), omega arith)

pub returns-in_default : goal.returns-in_default
returns-in_default c = (search (appends-as, seven-asked) depth 6 fits 20000, omega arith)
