-- A shifted one has bit k and no other.
-- Assumes nothing.
use mathlib.Core.Bool.{Bool, not, ◌&&◌}
use mathlib.Core.Path.{ap, ◌∙◌}
use Rattle.laws.specs.Bits.{bit}
use Rattle.laws.proofs.BitLaws.{bit-one}
use Rattle.laws.proofs.U32Mask.without.Goals as goal

pub returns : goal.returns
returns c = λ j. c.minus.ensures j ∙ ap (λ (b : Bool). bit j c.args.self && not b) (bit-one 32 c.args.k c.requires j)
