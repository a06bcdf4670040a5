use Rattle.name_lists.proofs.NamesLaws.{names-pushed}
use Rattle.name_lists.proofs.list.Names.push.Goals as goal

pub returns : goal.returns
returns c = search names-pushed
