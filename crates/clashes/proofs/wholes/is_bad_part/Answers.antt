use mathlib.Core.Path.{refl}
use borrow.Author.Rules.{rules}
use borrow.Author.Tests.{tests}
use Rattle.clashes.specs.Refuted.{BitsKept, Refuted}
use Rattle.worlds.specs.Kept.{WholesKept}
use Rattle.clashes.proofs.AnyLaws.{any-index}
use Rattle.clashes.proofs.wholes.is_bad_part.Goals as goal

pub returns : goal.returns
returns c =
    let a = c.args in
    λ t. (any-index (λ _. Refuted (λ w. BitsKept a.q.now.must a.q.now.shut w × WholesKept a.tables.now.lines w) a.types.now.at a.q.now.seeds) a.q.now.seeds c.any.ensures.ran refl (λ x q k. search (rules, tests)) (λ x q k. search (rules, tests)) t).2
