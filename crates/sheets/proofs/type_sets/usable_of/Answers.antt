use borrow.Author.Rules.{rules}
use borrow.Author.Tests.{tests}
use Rattle.sheets.specs.MasksBy.{usable_in}
use Rattle.sheets.proofs.type_sets.usable_of.Goals as goal

pub returns : goal.returns
returns c = let a = c.args in c.mask_of.ensures (usable_in a.kinds.now a.dues.now) (λ t b l k. search (rules, tests))
