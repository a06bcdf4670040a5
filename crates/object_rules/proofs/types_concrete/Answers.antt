use Rattle.object_rules.proofs.TypeLaws.{rule1-types}
use Rattle.object_rules.proofs.types_concrete.Goals as goal

pub returns : goal.returns
returns c =
    let of = c.of.ensures in
    rule1-types c.args.d.now.stored c.args.d.now.held c.args.m.now (rw (of.types, of.memory) at c.are_concrete.ensures)
