-- `judge` meets its contract: where the two links cannot agree, no net between has both or neither.
-- Assumes nothing.
use Prim.Native.Nat.{◌+◌, ◌*◌}
use mathlib.Core.Bool.{not}
use mathlib.Core.Path.{sym, ap, ◌∙◌}
use native.Mathlib.Omega.{arith}
use Rattle.laws.proofs.SearchLaws.{by-yes}
use Rattle.link_search.specs.Families.{MirrorHolds}
use Rattle.link_search.proofs.SeenLaws.{looked-err}
use Rattle.link_search.proofs.asked.Mirror.judge.Goals as goal

pub returns-in_err-wanted : goal.returns-in_err-wanted
returns-in_err-wanted c =
    let a = c.args in
    let m = a.self.now in
    let right = m.slotted_right in
    let left = m.slotted_left in
    let x = a.o * 32 + m.right in
    let y = a.p * 32 + m.left in
    looked-err (λ w. MirrorHolds m w a.o a.p) a.bounds.now.must a.bounds.now.may c.from_residual.result c.from_residual.ensures.0
    (λ w b ok. c.in_err-wanted.ensures (w x a.p) (w y a.o)
    (λ z. b.least x a.p (omega arith) c.requires.1 (sym c.is_linked.ensures ∙ z)) (λ z f. c.is_linked-2.ensures ∙ b.most x a.p (omega arith) c.requires.1 z (sym c.is_linked.ensures ∙ f))
    (λ z. b.least y a.o (omega arith) c.requires.0 (sym c.is_linked-3.ensures ∙ z)) (λ z f. c.is_linked-4.ensures ∙ b.most y a.o (omega arith) c.requires.0 z (sym c.is_linked-3.ensures ∙ f))
    (ok (by-yes c.has.ensures (ap not c.if-not-has.false)) (by-yes c.has-2.ensures (ap not c.if-not-has-2.false))))
