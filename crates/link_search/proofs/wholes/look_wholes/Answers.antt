-- `look_wholes` meets its contract: a part of two wholes, or none.
-- Assumes nothing.
use Prim.Native.Nat.{ℕ}
use mathlib.Core.Bool.{Bool}
use mathlib.Core.List.{List}
use mathlib.Core.Path.{◌∙◌, sym, refl}
use borrow.Author.Rules.{rules}
use borrow.Author.Tests.{tests, ltb-true, ltb-false}
use lib.Dec.{ltb}
use Rattle.laws.specs.Bounded.{tally}
use Rattle.laws.proofs.BoundedLaws.{any_at, any-no}
use Rattle.laws.proofs.RangeLaws.{any-range}
use Rattle.link_search.specs.Nets.{net_of}
use Rattle.link_search.specs.Families.{whole}
use Rattle.link_search.specs.declared.asked.Whole.{Whole}
use Rattle.link_search.proofs.WholeLaws.{wholes-dead}
use Rattle.link_search.proofs.wholes.look_wholes.Goals as goal

abbrev twice : List Whole → List ℕ → ℕ → Bool
twice wholes must p = ltb 1 (tally (whole wholes (net_of must) p) 8)

pub returns-then-any : goal.returns-then-any
returns-then-any c =
    let a = c.args in
    let e = any-range (twice a.wholes.now a.must.now) 8 c.any.ensures.ran refl (λ p b f k. search (rules, tests)) in
    let v = any_at (twice a.wholes.now a.must.now) 8 (sym e ∙ c.if-any.true) in
    λ may w b. wholes-dead a.wholes.now a.must.now may w b v.0 v.1 (ltb-true 1 (tally (whole a.wholes.now (net_of a.must.now) v.0) 8) v.2)

pub returns : goal.returns
returns c =
    let a = c.args in
    let e = any-range (twice a.wholes.now a.must.now) 8 c.any.ensures.ran refl (λ p b f k. search (rules, tests)) in
    record { at = λ p l. ltb-false 1 (tally (whole a.wholes.now (net_of a.must.now) p) 8) (any-no (twice a.wholes.now a.must.now) 8 (sym e ∙ c.if-any.false) p l) }
