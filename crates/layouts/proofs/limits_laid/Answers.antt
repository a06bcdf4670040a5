use Rattle.files.specs.Limit.{limits_laid}
use Rattle.laws.specs.Connective.{both, either}
use Rattle.layouts.proofs.limits_laid.Goals as goal

pub returns : goal.returns
unfolding limits_laid both either
returns c = cc
