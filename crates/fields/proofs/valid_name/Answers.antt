use Rattle.files.specs.Name.{name_byte}
use Rattle.fields.proofs.NameLaws.{name-size, name-by-bytes}
use Rattle.laws.proofs.SliceLaws.{all-slice}
use borrow.Author.Rules.{rules}
use borrow.Author.Tests.{tests}
use Rattle.fields.proofs.valid_name.Goals as goal

pub returns-then-w : goal.returns-then-w
returns-then-w c = name-by-bytes c.args.w.now c.if-w.true (all-slice name_byte c.args.w.now c.all.ensures.ran c.iter.ensures.rest (λ x b q k. search (rules, tests)))

pub returns-else-w : goal.returns-else-w
returns-else-w c = name-size c.args.w.now c.if-w.false
