-- `needs::with_need` meets its contract.
-- Assumes nothing.
use Rattle.std.specs.Prelude.{None, Some}
use Rattle.demands.proofs.NeedLaws.{sharp-need, sharp-none, sharp-room}
use Rattle.demands.proofs.needs.with_need.Goals as goal

pub returns-then-g-eq0 : goal.returns-then-g-eq0
returns-then-g-eq0 c = let a = c.args in sharp-none a.s (Some a.best) a.g a.c c.requires None c.if-g-eq0.true

pub returns-then-s-c : goal.returns-then-s-c
returns-then-s-c c = let a = c.args in sharp-room a.s (Some a.best) a.g a.c c.requires None c.if-s-c.true

pub returns-then-g-best : goal.returns-then-g-best
returns-then-g-best c = let a = c.args in sharp-need a.s (Some a.best) a.g a.c c.requires
