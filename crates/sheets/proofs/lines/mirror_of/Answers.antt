use mathlib.Core.Bool.{false, true}
use mathlib.Core.Path.{◌∙◌, ap, sym}
use lib.Dec.{ltb}
use Rattle.laws.specs.Connective.{both}
use Rattle.sheets.specs.LinesBy.{mirrored}
use Rattle.sheets.proofs.LineLaws.{mirror-is}
use Rattle.sheets.proofs.lines.mirror_of.Goals as goal

pub returns-then-j-ends : goal.returns-then-j-ends
unfolding both mirrored
returns-then-j-ends c =
    let e = c.args.ends.now in
    mirror-is e.sets e.slots e.asked.now.arrows e.asked.now.count c.args.j true (ap (both (ltb c.args.j e.asked.now.count)) (sym c.is_mirrored.ensures) ∙ c.if-j-ends.true)

pub returns : goal.returns
unfolding both mirrored
returns c =
    let e = c.args.ends.now in
    mirror-is e.sets e.slots e.asked.now.arrows e.asked.now.count c.args.j false (ap (both (ltb c.args.j e.asked.now.count)) (sym c.is_mirrored.ensures) ∙ c.if-j-ends.false)
