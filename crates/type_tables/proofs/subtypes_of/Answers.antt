use borrow.Author.Rules.{rules}
use borrow.Author.Tests.{tests}
use Rattle.type_tables.specs.RowsIn.{is_subtype}
use Rattle.type_tables.proofs.subtypes_of.Goals as goal

pub returns : goal.returns
returns c = c.mask_of.ensures (is_subtype c.args.sets.now c.args.x) (λ u b l k. search (rules, tests))
