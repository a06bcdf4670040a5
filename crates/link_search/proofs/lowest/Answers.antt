-- `lowest` meets its contract: the place of the lowest bit of a number that is not 0.
-- Assumes nothing.
use Rattle.link_search.proofs.JudgeLaws.{lowest-bit}
use Rattle.link_search.proofs.lowest.Goals as goal

pub returns : goal.returns
returns c = lowest-bit c.args.m c.requires c.ranges.m.fits
