-- `find_lines` meets its contract: one family after the other.
-- Assumes nothing.
use mathlib.Core.Path.{refl}
use Rattle.queries.proofs.BreakLaws.{breaks-hit, breaks-last}
use Rattle.aims.proofs.search.Search.find_lines.Goals as goal

pub returns-in-Some : goal.returns-in-Some
returns-in-Some c = breaks-hit _ _ _ _ _ _ refl (λ w k. k.columns) c.in-Some.ensures

pub returns-in-Some-find_mirrors : goal.returns-in-Some-find_mirrors
returns-in-Some-find_mirrors c = breaks-hit _ _ _ _ _ _ refl (λ w k. k.mirrors) c.in-Some-find_mirrors.ensures

pub returns : goal.returns
returns c =
    breaks-last _ _ _ _ _ _ (λ w k. k.wholes)
    (λ w h e k.
    record {
      columns = c.in_default.ensures.kept refl w h e;
      mirrors = c.in_default-find_mirrors.ensures.kept refl w h e;
      wholes = k;
    })
    c.find_wholes.ensures
