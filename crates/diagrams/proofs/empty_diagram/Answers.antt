use Rattle.diagrams.proofs.EmptyLaws.{zero-diagram}
use Rattle.diagrams.proofs.empty_diagram.Goals as goal

pub returns : goal.returns
returns c = zero-diagram c.default.result c.default.ensures
