-- `usable_row` meets its contract.
-- Assumes nothing.
use mathlib.Core.Path.{◌∙◌, sym}
use borrow.Author.Tests.{not-false, not-true}
use Rattle.narrowing.proofs.RowLaws.{row-left, row-no-type, row-none}
use mathlib.Core.Bool.{not}
use mathlib.Core.Path.{ap}
use Rattle.narrowing.proofs.usable_row.Goals as goal

pub returns-then-high-eq0 : goal.returns-then-high-eq0
returns-then-high-eq0 c = let a = c.args in row-none a.mask a.high a.usable a.t c.if-high-eq0.true

pub returns-then-not-is_in : goal.returns-then-not-is_in
returns-then-not-is_in c =
    let a = c.args in
    row-no-type a.mask a.high a.usable a.t c.if-high-eq0.false (sym c.is_in.ensures ∙ not-true c.is_in.result (ap not c.if-not-is_in.true))

pub returns : goal.returns
returns c =
    let a = c.args in
    row-left a.mask a.high a.usable a.t c.if-high-eq0.false (sym c.is_in.ensures ∙ not-false c.is_in.result (ap not c.if-not-is_in.false))
