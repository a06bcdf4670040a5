-- `common` meets its contract, bit by bit.
-- Assumes nothing.
use Rattle.laws.proofs.BitLaws.{bit-and}
use Rattle.queries.proofs.common.Goals as goal

pub returns : goal.returns
returns c = λ j. bit-and j c.args.a c.args.b
