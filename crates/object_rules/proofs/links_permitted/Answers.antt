use mathlib.Core.Bool.{not}
use mathlib.Core.Path.{ap, ◌∙◌}
use Rattle.object_rules.proofs.LinkLaws.{rule5-stray, rule5-links}
use Rattle.object_rules.proofs.links_permitted.Goals as goal

pub returns-then-not-r : goal.returns-then-not-r
returns-then-not-r c =
    let r = c.args.r.now in
    let of = c.of.ensures in
    rule5-links r.diagram.now.stored r.diagram.now.held r.memory.now r.few r.tables.masks r.instances r.tables.slots r.slots c.if-not-r.true
    (rw (of.memory, of.associations, of.tables) at c.links_fit.ensures)

pub returns-else-not-r : goal.returns-else-not-r
returns-else-not-r c = ap not c.if-not-r.false ∙ rule5-stray c.args.r.now.diagram.now.stored c.args.r.now.memory.now c.if-not-r.false
