use mathlib.Core.Bool.{not}
use mathlib.Core.Path.{ap, ◌∙◌}
use Rattle.tables.proofs.CodedLaws.{codes-coded}
use Rattle.object_rules.proofs.ValueLaws.{rule3-stray, rule3-values}
use Rattle.object_rules.proofs.values_declared.Goals as goal

pub returns-then-not-v : goal.returns-then-not-v
returns-then-not-v c =
    let v = c.args.v.now in
    let of = c.of.ensures in
    rule3-values v.diagram.now.stored v.diagram.now.held v.memory.now (codes-coded v.codes) v.tables.masks v.instances v.tables.slots v.slots c.if-not-v.true
    (rw (of.memory, of.attributes, of.tables) at c.all_due.ensures)

pub returns-else-not-v : goal.returns-else-not-v
returns-else-not-v c = ap not c.if-not-v.false ∙ rule3-stray c.args.v.now.diagram.now.stored c.args.v.now.memory.now c.if-not-v.false
