use borrow.Author.Rules.{rules}
use borrow.Author.Tests.{tests}
use mathlib.Core.Path.{refl}
use Rattle.laws.proofs.RangeLaws.{all-range}
use Rattle.leaves.specs.Fitting.{type_fits}
use Rattle.leaves.proofs.objects.Objects.each_fits.Goals as goal

pub returns : goal.returns
returns c =
    let a = c.args.self.now in
    all-range (type_fits c.args.usable a.q.now.seeds a.q.now.types a.q.now.never a.types.now.at) _ c.all.ensures.ran refl (λ x b q k. search (rules, tests))
