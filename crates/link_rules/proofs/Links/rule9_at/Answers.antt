use Rattle.link_rules.proofs.WholeLaws.{wholes-counted}
use borrow.Author.Rules.{rules}
use Rattle.link_rules.proofs.Links.rule9_at.Goals as goal

pub returns : goal.returns
returns c = wholes-counted _ _ _ _ _ _ _ (search rules) c.whole_mask.ensures c.count8.ensures.0
