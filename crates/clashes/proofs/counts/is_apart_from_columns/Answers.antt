use mathlib.Core.Path.{refl}
use borrow.Author.Rules.{rules}
use borrow.Author.Tests.{tests}
use Rattle.clashes.specs.Clashes.{Never}
use Rattle.clashes.specs.Asked.{SourcesAsked}
use Rattle.worlds.specs.Kept.{ColumnsKept}
use Rattle.clashes.proofs.AnyLaws.{any-index}
use Rattle.clashes.proofs.counts.is_apart_from_columns.Goals as goal

pub returns : goal.returns
returns c =
    let a = c.args in
    λ t. (any-index (λ _. Never (λ w. SourcesAsked a.asked w × ColumnsKept a.lines.now w)) 16 c.any.ensures.ran refl (λ x q k. search (rules, tests)) (λ x q k. search (rules, tests)) t).2
