-- `is_covered` meets its contract: a mask that takes in another one as it stands.
-- Assumes nothing.
use mathlib.Core.Path.{◌∙◌}
use Rattle.leaves.specs.Arrays.{covered}
use Rattle.laws.proofs.BitLaws.{inside-test}
use Rattle.leaves.proofs.rows.is_covered.Goals as goal

pub returns : goal.returns
unfolding covered
returns c = c.is_inside.ensures ∙ inside-test 8 c.args.a c.args.b c.ranges.a.fits c.ranges.b.fits
