use borrow.Author.Rules.{rules}
use borrow.Author.Tests.{tests}
use mathlib.Core.Path.{refl}
use Rattle.laws.proofs.RangeLaws.{all-range}
use Rattle.link_rules.specs.Judged.{by_tables}
use Rattle.link_rules.specs.WholesIn.{one_whole_at_in, one_whole_in}
use Rattle.link_rules.proofs.Association.one_whole.Goals as goal

pub returns : goal.returns
unfolding one_whole_in
returns c =
    let v = c.args.self.now in
    all-range (by_tables one_whole_at_in v.links v.index) _ c.all.ensures.ran refl (λ x b q k. search (rules, tests))
