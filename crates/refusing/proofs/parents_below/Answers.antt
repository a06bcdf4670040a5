use borrow.Author.Rules.{rules}
use borrow.Author.Tests.{tests}
use lib.Dec.{ltb}
use mathlib.Core.Path.{◌∙◌}
use Rattle.laws.proofs.SliceLaws.{all-slice}
use Rattle.files.specs.DiagramLayout.{type_of}
use Rattle.refusing.specs.Numbers.{below}
use Rattle.refusing.proofs.parents_below.Goals as goal

pub returns : goal.returns
unfolding below
returns c =
    all-slice (λ p. ltb p c.args.n) (type_of c.args.c.now).parents c.all.ensures.ran (c.iter.ensures.rest ∙ c.type_parents.ensures) (λ x b q k. search (rules, tests))
