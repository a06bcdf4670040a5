-- A shifted one or-ed in sets bit k and no other.
-- Assumes nothing.
use Rattle.laws.proofs.BitLaws.{bit-with}
use Rattle.laws.proofs.U32Mask.with.Goals as goal

pub returns : goal.returns
returns c = bit-with 32 c.args.k c.args.self c.requires
