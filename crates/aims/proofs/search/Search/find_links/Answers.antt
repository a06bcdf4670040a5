-- `find_links` meets its contract: a link leads to another object or to the object itself.
-- Assumes nothing.
use mathlib.Core.Path.{refl}
use Rattle.aims.proofs.RowLaws.{links-first, links-second}
use Rattle.queries.proofs.BreakLaws.{breaks-hit}
use Rattle.aims.proofs.search.Search.find_links.Goals as goal

pub returns-in-Some : goal.returns-in-Some
returns-in-Some c = breaks-hit _ _ _ _ _ _ refl (links-first _ _ _) c.in-Some.ensures

pub returns : goal.returns
returns c = links-second _ _ _ _ _ _ _ _ c.common.ensures (c.in_default.ensures.kept refl) c.ask_loops.ensures
