use borrow.Author.Rules.{rules}
use borrow.Author.Tests.{tests}
use mathlib.Core.Path.{refl}
use Rattle.laws.proofs.RangeLaws.{any-range}
use Rattle.permits.specs.Permits.{permits_at}
use Rattle.permits.proofs.Permits.is_permitted.Goals as goal

pub returns : goal.returns
returns c =
    let a = c.args in
    any-range (permits_at a.self.now.associations.now.arrows a.self.now.associations.now.types a.self.now.tables.now.masks a.self.now.tables.now.slots a.link.slot a.link.from a.link.to) _ c.any.ensures.ran refl (λ x b q k. search (rules, tests))
