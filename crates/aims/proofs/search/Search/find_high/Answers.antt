-- `find_high` meets its contract: the own table allows no more, or more are searched for.
-- Assumes nothing.
use Rattle.aims.proofs.ChainLaws.{keeps}
use Rattle.aims.proofs.RowLaws.{high-found, high-free, high-none}
use Rattle.aims.proofs.search.Search.find_high.Goals as goal

pub returns-then-self-i : goal.returns-then-self-i
returns-then-self-i c = keeps c.args.self.now _ (high-none _ _ _ _ c.if-self-i.true)

pub returns-then-high-ge8 : goal.returns-then-high-ge8
returns-then-high-ge8 c = keeps c.args.self.now _ (high-free _ _ _ _ c.if-high-ge8.true)

pub returns : goal.returns
returns c = high-found _ _ _ _ _ _ _ _ c.slot_at.ensures.0 c.type_at.ensures c.ask_rows.ensures
