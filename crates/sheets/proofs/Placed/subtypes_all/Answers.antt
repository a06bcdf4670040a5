use Prim.Native.Nat.{◌<◌}
use borrow.Author.Rules.{rules}
use borrow.Author.Tests.{tests}
use Rattle.laws.specs.Bits.{Marks}
use Rattle.laws.proofs.ArrayLaws.{made-at}
use Rattle.type_tables.specs.RowsIn.{is_subtype}
use Rattle.sheets.specs.NamedIn.{is_image}
use Rattle.sheets.proofs.Placed.subtypes_all.Goals as goal

pub returns : goal.returns
returns c =
    let p = c.args.self.now in
    made-at (λ j v. j < p.m → Marks (is_image p.images (is_subtype c.args.sets.now j) p.m) p.k v) (λ x b q k. search (rules, tests)) c.from_fn.ensures.items
