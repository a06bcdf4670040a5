use borrow.Author.Rules.{rules}
use borrow.Author.Tests.{tests}
use mathlib.Core.Path.{refl}
use Rattle.laws.proofs.RangeLaws.{all-range}
use Rattle.masks.specs.Masks.{mirror_fits, mirror_row_fits}
use Rattle.masks.proofs.Role.mirror_row_fits.Goals as goal

pub returns : goal.returns
unfolding mirror_row_fits
returns c =
    let a = c.args in
    all-range (mirror_fits a.self.now.links.now a.self.now.slot a.back a.self.now.from a.self.now.to a.o) _ c.all.ensures.ran refl (λ x b q k. search (rules, tests))
