use Rattle.type_tables.proofs.EndStepLaws.{steps}
use Rattle.type_tables.proofs.is_carried.Goals as goal

pub returns-then-e-eq0 : goal.returns-then-e-eq0
returns-then-e-eq0 c = search steps depth 8 fits 20000

pub returns : goal.returns
returns c = search steps depth 8 fits 20000
