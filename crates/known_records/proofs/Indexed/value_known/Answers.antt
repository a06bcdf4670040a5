use Rattle.known_records.proofs.KnownLaws.{value_none, value-untyped, value-typed}
use native.Mathlib.Omega.{arith}
use mathlib.Core.Path.{ap, refl, ◌∙◌}
use Prim.Native.Nat.{ℕ, ◌/◌, ◌<◌}
use Rattle.known_records.proofs.Indexed.value_known.Goals as goal

pub returns-in_default : goal.returns-in_default
returns-in_default c = value_none _ _ (omega (arith, c.in_default.ensures))

pub returns-then-values-t : goal.returns-then-values-t
returns-then-values-t c =
    let e = c.in-Some.ensures in
    value-untyped _ _ _ (λ z. omega (arith, e.0)) (c.from-t.ensures ∙ ap (λ (k : ℕ). k / 8) e.1) c.if-values-t.true

pub returns : goal.returns
returns c =
    let e = c.in-Some.ensures in
    let l : c.from-t.result < c.args.self.now.diagram.now.stored.values.count = omega (arith, c.if-values-t.false) in
    (rw e.1 at c.is_known.ensures) ∙ value-typed _ _ _ _ (λ z. omega (arith, e.0)) (c.from-t.ensures ∙ ap (λ (k : ℕ). k / 8) e.1) l refl
