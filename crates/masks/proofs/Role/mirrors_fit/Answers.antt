use borrow.Author.Rules.{rules}
use borrow.Author.Tests.{tests}
use mathlib.Core.Path.{refl}
use Rattle.laws.proofs.RangeLaws.{all-range}
use Rattle.masks.specs.Masks.{mirror_row_fits, mirrors_fit}
use Rattle.masks.proofs.Role.mirrors_fit.Goals as goal

pub returns : goal.returns
unfolding mirrors_fit
returns c =
    let a = c.args in
    all-range (mirror_row_fits a.self.now.links.now a.self.now.slot a.back a.self.now.from a.self.now.to a.self.now.count) _ c.all.ensures.ran refl (λ x b q k. search (rules, tests))
