use Rattle.std.proofs.Common.{leb, ◌&&◌}
use Rattle.files.specs.DiagramLayout.{association_laid}
use Rattle.files.specs.Content.{at_end}
use Rattle.laws.proofs.ConnectiveLaws.{and-is-both}
use Rattle.layouts.proofs.ChainLaws.{and-chain-5}
use Rattle.layouts.proofs.association_laid.Goals as goal

pub returns : goal.returns
unfolding association_laid at_end
returns c = let a = c.byte-arrow.result in
    cc (and-chain-5 (leb c.byte.result 1) (leb 1 a && leb a 4) c.end_laid.result c.end_laid-2.result c.is_empty.result, and-is-both (leb 1 a) (leb a 4))
