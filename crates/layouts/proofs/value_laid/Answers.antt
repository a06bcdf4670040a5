use Rattle.files.specs.RecordLayout.{value_laid}
use Rattle.files.specs.Content.{at_end}
use Rattle.layouts.proofs.ChainLaws.{and-chain-4}
use Rattle.layouts.proofs.value_laid.Goals as goal

pub returns : goal.returns
unfolding value_laid at_end
returns c = cc (and-chain-4 c.starts_name.result c.starts_name-2.result c.starts_constant.result c.is_empty.result)
