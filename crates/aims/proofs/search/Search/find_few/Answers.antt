-- `find_few` meets its contract: nothing is asked for, or there are no sources, or fewer are searched for.
-- Assumes nothing.
use Rattle.aims.proofs.ChainLaws.{keeps}
use Rattle.aims.proofs.ColumnLaws.{least-found, least-none, least-past}
use native.Mathlib.Omega.{arith}
use Rattle.aims.proofs.search.Search.find_few.Goals as goal

pub returns-then-column-eq0 : goal.returns-then-column-eq0
returns-then-column-eq0 c = keeps c.args.self.now _ (least-none _ _ _ _ _ _ c.if-column-eq0.true)

pub returns-then-column-ge32 : goal.returns-then-column-ge32
returns-then-column-ge32 c = least-past _ _ _ _ _ _ _ _ c.if-column-ge32.true (omega (arith, c.if-column-eq0.false)) c.ask_types.ensures

pub returns : goal.returns
returns c = least-found _ _ _ _ _ _ _ _ (omega (arith, c.if-column-eq0.false)) c.ask_columns.ensures
