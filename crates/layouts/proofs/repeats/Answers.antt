use borrow.Author.Rules.{rules}
use borrow.Author.Tests.{tests}
use mathlib.Core.Path.{refl}
use Rattle.laws.proofs.RangeLaws.{any-range}
use Rattle.files.specs.Name.{same_name}
use Rattle.layouts.proofs.NamesLaws.{name_at}
use Rattle.layouts.proofs.repeats.Goals as goal

pub returns : goal.returns
returns c =
    any-range (λ j. same_name (name_at c.args.c.now j) (name_at c.args.c.now c.args.i)) c.args.i c.any.ensures.ran refl (λ x b q k. search (rules, tests))
