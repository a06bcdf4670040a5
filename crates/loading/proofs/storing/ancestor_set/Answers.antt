use mathlib.Core.Path.{refl}
use native.Mathlib.Omega.{arith}
use Prim.Native.Nat.{◌<◌}
use Rattle.std.proofs.lemmas.Grind.{get_or_default_zero}
use borrow.Author.Rules.{rules}
use borrow.Author.Tests.{tests}
use Rattle.std.proofs.lemmas.Iterator.{YieldsList-from_slice}
use Rattle.laws.proofs.FoldLaws.{fold-served, fold-holds}
use Rattle.loading.proofs.AncestorSetLaws.{SetSoFar, set-begin, set_next}
use Rattle.loading.proofs.storing.ancestor_set.Goals as goal

pub fold-requires-clause-callable : goal.fold-requires-clause-callable
fold-requires-clause-callable c =
    fold-served (YieldsList-from_slice c.args.ps.now c.iter.ensures.rest) _ (λ a x b q k. search (rules, tests)) (λ a x k l e.
    let w : x.now < 24 = omega (arith, e, get_or_default_zero c.args.ps.now k x.now l, c.requires.1 k l, c.requires.0) in
    search (rules, w))

pub returns : goal.returns
returns c =
    fold-holds (YieldsList-from_slice c.args.ps.now c.iter.ensures.rest) (SetSoFar c.args.sets.now c.args.t c.args.ps.now) (λ k a x b q l e p w. search (rules, tests, set_next)) c.fold.ensures.ran
    (set-begin c.args.sets.now c.args.t _ c.args.ps.now _ refl c.with.ensures)
