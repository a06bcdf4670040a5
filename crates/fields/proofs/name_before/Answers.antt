use Rattle.laws.proofs.OrderLaws.{is_less-lt}
use Rattle.files.specs.Name.{before, key}
use Rattle.fields.proofs.name_before.Goals as goal

pub returns : goal.returns
unfolding before key
returns c = is_less-lt c.args.a.now c.args.b.now c.lt.result c.lt.ensures
