use Prim.Native.Nat.{◌<◌}
use borrow.Author.Rules.{rules}
use borrow.Author.Tests.{tests}
use mathlib.Core.Path.{◌≡◌}
use Rattle.laws.proofs.ArrayLaws.{made-at}
use Rattle.type_tables.specs.ValuesIn.{due_at}
use Rattle.type_tables.proofs.Declared.dues.Goals as goal

pub returns : goal.returns
returns c =
    let d = c.args.self.now in
    made-at (λ k v. k < c.args.end → v ≡ due_at c.args.sets.now d.attributes.now.owners d.attributes.now.types d.slots.now d.attributes.now.count k)
    (λ k v q l. search (rules, tests)) c.from_fn.ensures.items
