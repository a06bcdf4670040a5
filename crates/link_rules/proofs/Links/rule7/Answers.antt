use borrow.Author.Rules.{rules}
use borrow.Author.Tests.{tests}
use mathlib.Core.Path.{refl}
use Rattle.laws.proofs.RangeLaws.{all-range}
use Rattle.link_rules.proofs.JudgedLaws.{says7}
use Rattle.link_rules.specs.Judged.{by_tables}
use Rattle.link_rules.specs.LinksIn.{rule7_in, rule7_at_in}
use Rattle.link_rules.proofs.Links.rule7.Goals as goal

pub returns : goal.returns
unfolding rule7_in
returns c =
    let v = c.args.self.now in
    says7 v (all-range (by_tables rule7_at_in v) _ c.all.ensures.ran refl (λ x b q k. search (rules, tests)))
