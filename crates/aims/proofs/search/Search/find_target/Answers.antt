-- `find_target` meets its contract: a link that the own table allows goes to a type that the other does not allow, or there is none.
-- Assumes nothing.
use Rattle.aims.proofs.ChainLaws.{keeps}
use Rattle.aims.proofs.RowLaws.{target_found, target_none}
use Rattle.aims.proofs.search.Search.find_target.Goals as goal

pub returns-then-b-eq0 : goal.returns-then-b-eq0
returns-then-b-eq0 c = keeps c.args.self.now _ (target_none _ _ _ _ _ c.minus-b.ensures c.if-b-eq0.true)

pub returns : goal.returns
returns c = target_found _ _ _ _ _ _ _ _ c.slot_at.ensures.0 c.type_at.ensures _ c.minus-b.ensures c.find_links.ensures
