use borrow.Author.Rules.{rules}
use borrow.Author.Tests.{tests}
use mathlib.Core.Path.{refl}
use Rattle.laws.proofs.RangeLaws.{all-range}
use Rattle.link_rules.proofs.JudgedLaws.{says8}
use Rattle.link_rules.specs.Judged.{by_tables}
use Rattle.link_rules.specs.LinksIn.{rule8_in, rule8_at_in}
use Rattle.link_rules.proofs.Links.rule8.Goals as goal

pub returns : goal.returns
unfolding rule8_in
returns c =
    let v = c.args.self.now in
    says8 v (all-range (by_tables rule8_at_in v) _ c.all.ensures.ran refl (λ x b q k. search (rules, tests)))
