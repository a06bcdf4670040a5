use Rattle.tables.proofs.CodedLaws.{codes-coded}
use Rattle.object_rules.proofs.ValueLaws.{rule4-values}
use Rattle.object_rules.proofs.values_belong.Goals as goal

pub returns : goal.returns
returns c =
    let v = c.args.v.now in
    let of = c.of.ensures in
    rule4-values v.diagram.now.stored v.diagram.now.held v.memory.now (codes-coded v.codes) v.tables.masks v.instances v.tables.slots v.slots
    (rw (of.memory, of.attributes, of.tables) at c.values_fit.ensures)
