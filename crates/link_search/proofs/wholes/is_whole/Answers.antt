-- `is_whole` meets its contract: some composition.
-- Assumes nothing.
use mathlib.Core.Path.{◌∙◌, ap}
use borrow.Author.Rules.{rules}
use borrow.Author.Tests.{tests}
use Rattle.laws.specs.Bounded.{any}
use Rattle.link_search.specs.Nets.{net_of}
use Rattle.link_search.specs.Families.{part, whole, whole_in}
use Rattle.link_search.proofs.AnyLaws.{any-each}
use Rattle.link_search.proofs.wholes.is_whole.Goals as goal

pub returns : goal.returns
unfolding whole
returns c =
    let a = c.args in
    any-each _ (λ x. part x (net_of a.rows.now) a.p a.o) a.wholes.now c.any.ensures.ran c.iter.ensures.rest (λ x b q k. search (rules, tests))
    ∙ ap (any (λ j. part (whole_in a.wholes.now j) (net_of a.rows.now) a.p a.o)) c.told-wholes
