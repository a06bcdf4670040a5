-- `find_mirror` meets its contract: one way and the other.
-- Assumes nothing.
use mathlib.Core.Path.{refl}
use Rattle.aims.proofs.MirrorLaws.{mirror-back, mirror-both, mirror-there}
use Rattle.queries.proofs.BreakLaws.{breaks-hit, breaks-last}
use Rattle.aims.proofs.search.Search.find_mirror.Goals as goal

pub returns-in-Some : goal.returns-in-Some
returns-in-Some c = breaks-hit _ _ _ _ _ _ refl (mirror-there c.args.mirror.now) c.in-Some.ensures

pub returns : goal.returns
returns c =
    breaks-last _ _ _ _ _ _ (mirror-back c.args.mirror.now) (λ w h e. mirror-both c.args.mirror.now w (c.in_default.ensures.kept refl w h e)) c.find_halves-2.ensures
