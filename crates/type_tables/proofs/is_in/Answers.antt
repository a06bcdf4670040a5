use mathlib.Core.Path.{◌∙◌, sym}
use borrow.Author.Tests.{le-ltb}
use Rattle.laws.proofs.BitLaws.{bit-above}
use Rattle.type_tables.proofs.is_in.Goals as goal

pub returns-else-k-lt32 : goal.returns-else-k-lt32
returns-else-k-lt32 c = le-ltb c.args.k 32 c.if-k-lt32.false ∙ sym (bit-above 32 c.args.k c.args.set c.ranges.set.fits c.if-k-lt32.false)
