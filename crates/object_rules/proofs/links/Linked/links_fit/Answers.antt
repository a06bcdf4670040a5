use borrow.Author.Rules.{rules}
use borrow.Author.Tests.{tests}
use mathlib.Core.Path.{refl}
use Rattle.laws.proofs.RangeLaws.{all-range}
use Rattle.object_rules.specs.LinksIn.{link_fits}
use Rattle.object_rules.proofs.links.Linked.links_fit.Goals as goal

pub returns : goal.returns
returns c =
    let v = c.args.self.now in
    let d = v.permits in
    all-range (link_fits v.memory.now.links d.associations.now.arrows d.associations.now.types d.tables.now.masks d.tables.now.slots d.associations.now.count) _ c.all.ensures.ran refl (λ x b q k. search (rules, tests))
