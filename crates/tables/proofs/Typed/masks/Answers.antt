use borrow.Author.Rules.{rules}
use borrow.Author.Tests.{tests}
use Rattle.laws.specs.Bits.{Marks}
use Rattle.laws.proofs.ArrayLaws.{made-at}
use Rattle.tables.specs.Numbers.{counts_as}
use Rattle.tables.proofs.Typed.masks.Goals as goal

pub returns : goal.returns
returns c =
    let v = c.args.self.now in
    made-at (λ k b. Marks (counts_as v.types.now.sets v.types.now.count v.objects.now k) 8 b) (λ x b q k. search (rules, tests)) c.from_fn.ensures.items
