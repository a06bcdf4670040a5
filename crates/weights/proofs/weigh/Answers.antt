use Rattle.weights.proofs.ScaleLaws.{short-of}
use borrow.Author.Rules.{rules}
use Rattle.weights.proofs.weigh.Goals as goal

pub returns : goal.returns
returns c = short-of _ _ _ _ _ _ _ _ _ _ _ _ (search rules) c.args.tables.now.turned c.then_some-own.ensures c.scale_of-x.ensures c.lacking.ensures
