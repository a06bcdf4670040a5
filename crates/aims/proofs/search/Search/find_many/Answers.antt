-- `find_many` meets its contract: so many are always allowed, or there are no sources, or more are searched for.
-- Assumes nothing.
use Rattle.aims.proofs.ChainLaws.{keeps}
use Rattle.aims.proofs.ColumnLaws.{most-found, most-free, most-past}
use Rattle.aims.proofs.search.Search.find_many.Goals as goal

pub returns-then-column-ge8 : goal.returns-then-column-ge8
returns-then-column-ge8 c = keeps c.args.self.now _ (most-free _ _ _ _ _ _ c.if-column-ge8.true)

pub returns-then-column-ge32 : goal.returns-then-column-ge32
returns-then-column-ge32 c = keeps c.args.self.now _ (most-past _ _ _ _ _ _ c.if-column-ge32.true)

pub returns : goal.returns
returns c = most-found _ _ _ _ _ _ _ _ c.ask_columns.ensures
