-- `parts::with_whole` meets its contract: the wholes of the object are limited.
-- Assumes nothing.
use Rattle.std.specs.Prelude.{Some}
use borrow.Author.Rules.{rules}
use borrow.Author.Tests.{tests}
use Rattle.demands.proofs.WholeLimitLaws.{same-wish, whole-by}
use Rattle.demands.proofs.parts.with_whole.Goals as goal

pub returns : goal.returns
returns c =
    let a = c.args in
    whole-by a.tables.now.lines a.s (Some a.best) c.map_or.result c.common_whole.result a.p c.requires c.of.ensures.0 c.common_whole.ensures c.map_or.ensures (λ mask k. search (rules, tests, same-wish))
