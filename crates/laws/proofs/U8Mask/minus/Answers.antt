-- What is in both is put in by or, and taken out by xor.
-- Assumes nothing.
use Rattle.laws.proofs.BitLaws.{bit-without}
use Rattle.laws.proofs.U8Mask.minus.Goals as goal

pub returns : goal.returns
returns c = bit-without c.args.self c.args.m
