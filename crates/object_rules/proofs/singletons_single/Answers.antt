use Rattle.object_rules.proofs.TypeLaws.{rule2-types}
use Rattle.object_rules.proofs.singletons_single.Goals as goal

pub returns : goal.returns
returns c =
    let of = c.of.ensures in
    rule2-types c.args.d.now.stored c.args.d.now.held c.args.m.now (rw (of.types, of.memory) at c.are_single.ensures)
