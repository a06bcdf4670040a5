use mathlib.Core.Path.{refl}
use borrow.Author.Rules.{rules}
use borrow.Author.Tests.{tests}
use Rattle.clashes.specs.Clashes.{FirstTargets, LinkedBack, Never}
use Rattle.clashes.specs.Sources.{SourcesKept}
use Rattle.worlds.specs.Kept.{ColumnsKept}
use Rattle.clashes.proofs.AnyLaws.{any-index}
use Rattle.clashes.proofs.back.is_apart_from_columns.Goals as goal

pub returns : goal.returns
returns c =
    let a = c.args in
    let b = a.back in
    λ t. (any-index (λ _. Never (λ w. FirstTargets b.first b.row.slot b.mask b.row.low b.row.high w × SourcesKept a.tables.now.sources w × ColumnsKept a.tables.now.lines w × LinkedBack b.slot b.there b.row.slot w)) 16 c.any.ensures.ran refl (λ x q k. search (rules, tests)) (λ x q k. search (rules, tests)) t).2
