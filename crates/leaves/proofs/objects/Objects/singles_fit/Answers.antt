use borrow.Author.Rules.{rules}
use borrow.Author.Tests.{tests}
use mathlib.Core.Path.{refl}
use Rattle.laws.proofs.RangeLaws.{all-range}
use Rattle.leaves.specs.Fitting.{single_fits}
use Rattle.leaves.proofs.objects.Objects.singles_fit.Goals as goal

pub returns : goal.returns
returns c =
    let a = c.args.self.now in
    all-range (single_fits c.args.singles a.types.now.at a.n) _ c.all.ensures.ran refl (λ x b q k. search (rules, tests))
