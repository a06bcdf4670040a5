use Rattle.std.proofs.Common.{eqb, leb, length, ◌+◌}
use Rattle.files.specs.DiagramLayout.{type_laid}
use Rattle.layouts.proofs.ChainLaws.{and-chain-4}
use Rattle.layouts.proofs.type_laid.Goals as goal

pub returns : goal.returns
unfolding type_laid
returns c = cc (and-chain-4 (leb c.byte.result 3) c.starts_name.result (leb c.byte-n.result 4) (eqb (length c.past_name-rest.result.now) (1 + c.from.result)))
