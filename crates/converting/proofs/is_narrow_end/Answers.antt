use Rattle.converting.proofs.HeldLaws.{narrow-end}
use Rattle.converting.proofs.is_narrow_end.Goals as goal

pub returns : goal.returns
returns c = narrow-end c.args.a.now c.args.e c.most_of-most.result c.most_of-most.ensures
