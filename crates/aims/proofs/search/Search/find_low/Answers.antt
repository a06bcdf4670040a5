-- `find_low` meets its contract: the own table asks for as many, or fewer are searched for.
-- Assumes nothing.
use Rattle.aims.proofs.ChainLaws.{keeps}
use Rattle.aims.proofs.RowLaws.{low-found, low-none}
use native.Mathlib.Omega.{arith}
use Rattle.aims.proofs.search.Search.find_low.Goals as goal

pub returns-then-low-self : goal.returns-then-low-self
returns-then-low-self c = keeps c.args.self.now _ (low-none _ _ _ _ c.if-low-self.true)

pub returns : goal.returns
returns c = low-found _ _ _ _ _ _ _ _ c.slot_at.ensures.0 c.type_at.ensures (omega (arith, c.if-low-self.false)) c.ask_rows.ensures
