use borrow.Author.Rules.{rules}
use borrow.Author.Tests.{tests}
use mathlib.Core.Path.{◌≡◌}
use lib.ListN.{get_or}
use Rattle.laws.specs.Bounded.{first}
use Rattle.laws.proofs.ArrayLaws.{made-at}
use Rattle.type_values.specs.Numbers.{lacking_in}
use Rattle.type_values.proofs.Constants.all_lacking.Goals as goal

pub returns : goal.returns
returns c =
    let a = c.args in
    let w = a.self.now.values.now in
    made-at (λ v x. x ≡ first (lacking_in a.others.now.constants (get_or a.others.now.sizes v 0) w.sizes w.constants w.count (get_or a.types.now v 0) v) 8)
    (λ x b q k. search (rules, tests)) c.from_fn.ensures.items
