-- A shifted one and-ed with the mask leaves bit k.
-- Assumes nothing.
use Rattle.laws.proofs.BitLaws.{bit_test}
use Rattle.laws.proofs.U8Mask.has.Goals as goal

pub returns : goal.returns
returns c = bit_test 8 c.args.k c.args.self c.requires
