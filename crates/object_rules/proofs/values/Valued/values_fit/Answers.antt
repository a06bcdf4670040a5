use borrow.Author.Rules.{rules}
use borrow.Author.Tests.{tests}
use mathlib.Core.Path.{refl}
use Rattle.laws.proofs.RangeLaws.{all-range}
use Rattle.object_rules.specs.ValuesIn.{value_fits}
use Rattle.object_rules.proofs.values.Valued.values_fit.Goals as goal

pub returns : goal.returns
returns c =
    let v = c.args.self.now in
    let d = v.declarations in
    all-range (value_fits v.memory.now.values d.attributes.now.owners d.attributes.now.types d.tables.now.masks d.tables.now.slots d.attributes.now.count) _ c.all.ensures.ran refl (λ x b q k. search (rules, tests))
