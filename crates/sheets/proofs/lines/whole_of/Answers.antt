use mathlib.Core.Bool.{false, true}
use Rattle.laws.specs.Connective.{both}
use Rattle.sheets.specs.LinesBy.{composed}
use Rattle.sheets.proofs.LineLaws.{whole-is}
use Rattle.sheets.proofs.lines.whole_of.Goals as goal

pub returns-then-j-ends : goal.returns-then-j-ends
unfolding both composed
returns-then-j-ends c =
    let e = c.args.ends.now in
    whole-is e.sets e.slots e.asked.now.forms e.asked.now.count c.args.j true c.if-j-ends.true

pub returns : goal.returns
unfolding both composed
returns c =
    let e = c.args.ends.now in
    whole-is e.sets e.slots e.asked.now.forms e.asked.now.count c.args.j false c.if-j-ends.false
