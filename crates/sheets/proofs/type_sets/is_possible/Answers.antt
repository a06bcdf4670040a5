use borrow.Author.Rules.{rules}
use borrow.Author.Tests.{tests}
use mathlib.Core.Path.{refl}
use Rattle.laws.proofs.RangeLaws.{all-range}
use Rattle.sheets.specs.MasksBy.{fine_in}
use Rattle.sheets.proofs.type_sets.is_possible.Goals as goal

pub returns : goal.returns
returns c = all-range (fine_in c.args.dues.now c.args.t) 32 c.all.ensures.ran refl (λ x b q k. search (rules, tests))
