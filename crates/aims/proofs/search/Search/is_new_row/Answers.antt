-- `is_new_row` meets its contract: no target goes, and no limit is narrower.
-- Assumes nothing.
use mathlib.Core.Bool.{true≢false}
use Rattle.aims.proofs.ChainLaws.{keeps}
use Rattle.aims.proofs.RowLaws.{row-kept}
use Rattle.aims.proofs.search.Search.is_new_row.Goals as goal

pub returns-then-minus-ne0 : goal.returns-then-minus-ne0
returns-then-minus-ne0 c = λ e. absurd (true≢false e)

pub returns-then-self-i : goal.returns-then-self-i
returns-then-self-i c = λ e. absurd (true≢false e)

pub returns-then-others-i : goal.returns-then-others-i
returns-then-others-i c = λ e. absurd (true≢false e)

pub returns : goal.returns
returns c = λ _. keeps c.args.self.now _ (row-kept _ _ _ _ _ _ _ c.minus.ensures c.if-minus-ne0.false c.if-self-i.false c.if-others-i.false)
