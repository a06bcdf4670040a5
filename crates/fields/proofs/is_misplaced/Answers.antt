use Rattle.fields.proofs.HeadLaws.{misplaced-by}
use Rattle.fields.proofs.is_misplaced.Goals as goal

pub returns : goal.returns
returns c = misplaced-by c.args.once c.args.last c.args.tag c.args.tags.now c.contains.ensures.value
