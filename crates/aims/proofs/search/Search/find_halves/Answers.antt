-- `find_halves` meets its contract: there are no links, or no links back, or a link leads to another object or to the object itself.
-- Assumes nothing.
use mathlib.Core.Path.{refl}
use Rattle.aims.proofs.MirrorLaws.{halves-first, halves-links, halves-past, halves-second}
use Rattle.queries.proofs.BreakLaws.{breaks-hit, breaks-none}
use Rattle.aims.proofs.search.Search.find_halves.Goals as goal

pub returns-then-s-ge32 : goal.returns-then-s-ge32
returns-then-s-ge32 c = breaks-none _ _ _ _ _ refl (halves-past _ _ _ _ _ _ c.if-s-ge32.true)

pub returns-then-u-ge32 : goal.returns-then-u-ge32
returns-then-u-ge32 c = halves-links _ _ _ _ _ _ _ _ c.if-u-ge32.true c.find_links.ensures

pub returns-in-Some : goal.returns-in-Some
returns-in-Some c = breaks-hit _ _ _ _ _ _ refl (halves-first _ _ _ _) c.in-Some.ensures

pub returns : goal.returns
returns c = halves-second _ _ _ _ _ _ _ _ _ c.common.ensures (c.in_default.ensures.kept refl) c.ask_half_loops.ensures
