use borrow.Author.Rules.{rules}
use borrow.Author.Tests.{tests}
use mathlib.Core.Path.{refl, ◌∙◌}
use Rattle.laws.proofs.RangeLaws.{first-range}
use Rattle.type_values.specs.Numbers.{lacking_in}
use Rattle.type_values.proofs.Constants.first_lacking.Goals as goal

pub returns : goal.returns
returns c =
    let a = c.args in
    let w = a.self.now.values.now in
    c.unwrap_or.ensures
    ∙ first-range (lacking_in a.constants.now a.size w.sizes w.constants w.count a.j a.v) 8 c.find.result c.find.new.self c.find.ensures.ran refl (λ x b q k. search (rules, tests))
