use mathlib.Core.Path.{refl}
use borrow.Author.Rules.{rules}
use borrow.Author.Tests.{tests}
use Rattle.clashes.specs.Refuted.{BitsKept, Refuted, TargetsKept}
use Rattle.clashes.proofs.AnyLaws.{any-index}
use Rattle.clashes.proofs.bits.is_bad_bit.Goals as goal

pub returns : goal.returns
returns c =
    let a = c.args in
    λ t. (any-index (λ _. Refuted (λ w. BitsKept a.q.now.must a.q.now.shut w × TargetsKept a.targets.now w) a.types.now.at a.q.now.seeds) a.q.now.seeds c.any.ensures.ran refl (λ x q k. search (rules, tests)) (λ x q k. search (rules, tests)) t).2
