use borrow.Author.Rules.{rules}
use borrow.Author.Tests.{tests}
use mathlib.Core.Path.{refl}
use Rattle.laws.proofs.RangeLaws.{all-range}
use Rattle.object_rules.specs.ValuesIn.{due_at, due_for}
use Rattle.object_rules.proofs.values.Valued.are_due.Goals as goal

pub returns : goal.returns
unfolding due_for
returns c =
    let v = c.args.self.now in
    let d = v.declarations in
    all-range (due_at v.memory.now.values d.attributes.now.owners d.tables.now.masks d.tables.now.slots d.attributes.now.count c.args.o) _ c.all.ensures.ran refl (λ x b q k. search (rules, tests))
