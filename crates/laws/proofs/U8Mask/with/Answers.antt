-- A shifted one or-ed in sets bit k and no other.
-- Assumes nothing.
use Rattle.laws.proofs.BitLaws.{bit-with}
use Rattle.laws.proofs.U8Mask.with.Goals as goal

pub returns : goal.returns
returns c = bit-with 8 c.args.k c.args.self c.requires
