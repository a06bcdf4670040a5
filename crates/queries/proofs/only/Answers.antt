-- `only` meets its contract, bit by bit.
-- Assumes nothing.
use Rattle.laws.proofs.BitLaws.{bit-only}
use Rattle.queries.proofs.only.Goals as goal

pub returns : goal.returns
returns c = λ j. bit-only c.args.t c.with.result (rw c.none.ensures at c.with.ensures) j
