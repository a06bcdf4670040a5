use mathlib.Core.Path.{subst}
use Rattle.diagrams.specs.declared.Associations.{Associations}
use Rattle.sheets.specs.LinesBy.{LinesIn}
use Rattle.sheets.proofs.LinesOfLaws.{lines_are}
use Rattle.sheets.proofs.lines_by.Goals as goal

pub returns : goal.returns
returns c =
    let by = c.args.by.now in
    let ends = c.of in
    let e = ends.result in
    lines_are by.old.now.stored by.new.now.stored by.new.now.held e.sets e.slots ends.ensures.sets ends.ensures.slots c.lines_of.result
    (subst (λ (x : Associations). LinesIn e.sets e.slots x.arrows x.forms x.lows x.ups x.count c.lines_of.result) ends.ensures.asked c.lines_of.ensures)
