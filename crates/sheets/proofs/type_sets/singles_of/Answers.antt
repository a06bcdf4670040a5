use borrow.Author.Rules.{rules}
use borrow.Author.Tests.{tests}
use Rattle.sheets.specs.MasksBy.{single_in}
use Rattle.sheets.proofs.type_sets.singles_of.Goals as goal

pub returns : goal.returns
returns c = let a = c.args in c.mask_of.ensures (single_in a.kinds.now) (λ t b l k. search (rules, tests))
