-- `laws::count8` meets its contract: the count of ones is the count of the indices whose bit is set.
-- Assumes nothing.
use lib.Count.{ones-le}
use Rattle.laws.proofs.BitLaws.{ones-tally-of}
use Rattle.laws.proofs.count8.Goals as goal

pub returns : goal.returns
returns c = (ones-tally-of 8 c.args.m c.ranges.m.fits, ones-le 8 c.args.m c.ranges.m.fits)
