use Rattle.std.proofs.Common.{eqb, length, ◌||◌}
use Rattle.files.specs.DiagramLayout.{edition_laid}
use Rattle.laws.specs.Connective.{either}
use Rattle.layouts.proofs.ChainLaws.{and-chain}
use Rattle.layouts.proofs.edition_laid.Goals as goal

pub returns : goal.returns
unfolding edition_laid either
returns c = cc (and-chain (eqb (length c.args.c.now) 1) (eqb c.byte.result c.args.edition) (eqb c.args.edition 1 || eqb c.args.edition 2))
