use borrow.Author.Rules.{rules}
use borrow.Author.Tests.{tests}
use mathlib.Core.Path.{refl}
use Rattle.laws.proofs.RangeLaws.{any-range}
use Rattle.declarations.specs.Declares.{declares_at}
use Rattle.declarations.proofs.Declarations.is_declared.Goals as goal

pub returns : goal.returns
returns c =
    let a = c.args in
    any-range (declares_at a.self.now.attributes.now.owners a.self.now.tables.now.masks a.self.now.tables.now.slots a.o a.s) _ c.any.ensures.ran refl (λ x b q k. search (rules, tests))
