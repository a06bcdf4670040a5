use borrow.Author.Rules.{rules}
use borrow.Author.Tests.{tests}
use mathlib.Core.Path.{refl}
use Rattle.laws.proofs.RangeLaws.{all-range}
use Rattle.masks.specs.Masks.{limits_of, column_at_fits, columns_fit}
use Rattle.masks.proofs.Role.columns_fit.Goals as goal

pub returns : goal.returns
unfolding columns_fit
returns c =
    let a = c.args in
    all-range (column_at_fits a.self.now.links.now a.self.now.slot a.self.now.from a.self.now.to (limits_of a.limits) a.self.now.count) _ c.all.ensures.ran refl (λ x b q k. search (rules, tests))
