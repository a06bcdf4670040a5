use borrow.Author.Rules.{rules}
use borrow.Author.Tests.{tests}
use mathlib.Core.Path.{◌≡◌}
use Rattle.laws.proofs.ArrayLaws.{made-at}
use Rattle.type_values.specs.Numbers.{value_at_in}
use Rattle.type_values.proofs.all_values.Goals as goal

pub returns : goal.returns
returns c =
    let a = c.args in
    made-at (λ x b. b ≡ value_at_in a.dues.now a.firsts.now a.types.now a.n x) (λ x b q k. search (rules, tests)) c.from_fn.ensures.items
