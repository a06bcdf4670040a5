use borrow.Author.Rules.{rules}
use borrow.Author.Tests.{tests}
use mathlib.Core.Path.{refl}
use Rattle.laws.proofs.RangeLaws.{all-range}
use Rattle.masks.specs.Masks.{limits_of, row_at_fits, rows_fit}
use Rattle.masks.proofs.Role.rows_fit.Goals as goal

pub returns : goal.returns
unfolding rows_fit
returns c =
    let a = c.args in
    all-range (row_at_fits a.self.now.links.now a.self.now.slot a.self.now.from a.self.now.to (limits_of a.limits) a.self.now.count) _ c.all.ensures.ran refl (λ x b q k. search (rules, tests))
