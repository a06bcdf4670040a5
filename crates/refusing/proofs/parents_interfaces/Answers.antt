use borrow.Author.Rules.{rules}
use borrow.Author.Tests.{tests}
use lib.Dec.{eqb, ltb}
use lib.ListN.{get_or}
use mathlib.Core.Bool.{◌&&◌}
use mathlib.Core.Path.{◌∙◌}
use Rattle.laws.proofs.SliceLaws.{all-slice}
use Rattle.files.specs.DiagramLayout.{type_of}
use Rattle.refusing.specs.Numbers.{interfaces}
use Rattle.refusing.proofs.parents_interfaces.Goals as goal

pub returns : goal.returns
unfolding interfaces
returns c =
    all-slice (λ p. ltb p c.args.n && eqb (get_or c.args.kinds.now p 0) 2) (type_of c.args.c.now).parents c.all.ensures.ran (c.iter.ensures.rest ∙ c.type_parents.ensures)
    (λ x b q k. search (rules, tests))
