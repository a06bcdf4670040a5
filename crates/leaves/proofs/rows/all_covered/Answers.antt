use borrow.Author.Rules.{rules}
use borrow.Author.Tests.{tests}
use lib.ListN.{get_or}
use mathlib.Core.Path.{refl}
use Rattle.laws.proofs.RangeLaws.{all-range}
use Rattle.leaves.specs.Arrays.{all_covered, covered}
use Rattle.leaves.proofs.rows.all_covered.Goals as goal

pub returns : goal.returns
unfolding all_covered
returns c =
    let a = c.args.bounds.now in
    all-range (λ i. covered (get_or a.must i 0) (get_or a.may i 0)) _ c.all.ensures.ran refl (λ x b q k. search (rules, tests))
