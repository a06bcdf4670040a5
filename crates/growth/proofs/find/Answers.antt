-- `find` meets its contract: with no object given, every wanted world starts with what is given.
-- Assumes nothing.
use mathlib.Core.Path.{refl}
use Rattle.growth.proofs.SeedLaws.{answers-few, answers-grown}
use Rattle.growth.proofs.find.Goals as goal

pub returns-then-n-q : goal.returns-then-n-q
returns-then-n-q c = answers-few _ _ _ _ _ c.if-n-q.true refl

pub returns : goal.returns
returns c = answers-grown _ _ _ _ _ _ c.seed.ensures
