use borrow.Author.Rules.{rules}
use borrow.Author.Tests.{tests}
use mathlib.Core.Path.{refl}
use Rattle.laws.proofs.RangeLaws.{all-range}
use Rattle.declarations.specs.Declares.{agrees_at}
use Rattle.declarations.proofs.Declarations.are_agreeing.Goals as goal

pub returns : goal.returns
returns c =
    let a = c.args in
    all-range (agrees_at a.self.now.attributes.now.owners a.self.now.attributes.now.types a.self.now.tables.now.masks a.self.now.tables.now.slots a.o a.s a.value_type) _ c.all.ensures.ran refl (λ x b q k. search (rules, tests))
