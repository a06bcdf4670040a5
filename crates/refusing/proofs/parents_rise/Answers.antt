use borrow.Author.Rules.{rules}
use borrow.Author.Tests.{tests}
use Rattle.std.proofs.lemmas.Fn.{always_returns_same}
use lib.Dec.{ltb}
use mathlib.Core.Path.{ap, ◌∙◌}
use Rattle.laws.proofs.SliceLaws.{sorted-slice}
use Rattle.files.specs.DiagramFile.{rising}
use Rattle.refusing.proofs.parents_rise.Goals as goal

pub returns : goal.returns
unfolding rising
returns c =
    sorted-slice ltb c.type_parents.result.now _ (c.is_sorted_by.ensures.cases ltb (always_returns_same _ _ _ (λ a r q k. search (rules, tests)))) ∙ ap rising c.type_parents.ensures
