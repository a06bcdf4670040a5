-- `find_row` meets its contract: one thing after the other that the row asks.
-- Assumes nothing.
use mathlib.Core.Path.{refl}
use Rattle.queries.proofs.BreakLaws.{breaks-hit, breaks-last}
use Rattle.aims.proofs.search.Search.find_row.Goals as goal

pub returns-in-Some : goal.returns-in-Some
returns-in-Some c = breaks-hit _ _ _ _ _ _ refl (λ w k. k.targets-kept) c.in-Some.ensures

pub returns-in-Some-find_low : goal.returns-in-Some-find_low
returns-in-Some-find_low c = breaks-hit _ _ _ _ _ _ refl (λ w k. k.low-kept) c.in-Some-find_low.ensures

pub returns : goal.returns
returns c =
    breaks-last _ _ _ _ _ _ (λ w k. k.high-kept)
    (λ w h e k.
    record {
      targets-kept = c.in_default.ensures.kept refl w h e;
      low-kept = c.in_default-find_low.ensures.kept refl w h e;
      high-kept = k;
    })
    c.find_high.ensures
