use Rattle.records.proofs.EmptyLaws.{zero-record}
use Rattle.records.proofs.empty_record.Goals as goal

pub returns : goal.returns
returns c = zero-record c.default.result c.default.ensures
