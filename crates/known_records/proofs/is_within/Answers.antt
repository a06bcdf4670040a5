use native.Mathlib.Omega.{arith}
use Rattle.records.specs.WithinTest.{object_known, within}
use Rattle.diagrams.specs.View.{diagram_of}
use Rattle.laws.proofs.RangeLaws.{all-range}
use Rattle.laws.proofs.SearchLaws.{both-no, both_yes}
use borrow.Author.Rules.{rules}
use borrow.Author.Tests.{tests, le-leb, lt-leb}
use Prim.Native.Nat.{◌≤◌}
use mathlib.Core.Path.{refl}
use Rattle.known_records.proofs.is_within.Goals as goal

pub returns-then-m-gt8 : goal.returns-then-m-gt8
unfolding within
returns-then-m-gt8 c = both-no _ (lt-leb _ _ c.if-m-gt8.true)

pub returns : goal.returns
unfolding within
returns c =
    let a = c.args in
    let few : a.m.now.count ≤ 8 = omega arith in
    both_yes (le-leb _ _ few)
    (all-range (object_known (diagram_of a.d.now.stored) a.m.now) _ c.all.ensures.ran refl (λ x b q k. search (rules, tests)))
