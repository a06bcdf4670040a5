-- A loop that sets bit t where the test holds, for t = 0, 1, ..
-- Assumes nothing.
use Prim.Native.Nat.{ℕ}
use mathlib.Core.Bool.{◌||◌}
use mathlib.Core.Path.{ap, ◌∙◌}
use lib.Dec.{eqb}
use Rattle.laws.specs.Bits.{bit}
use Rattle.laws.proofs.MaskLaws.{mask-begin, mask-miss, mask-with, mask_done}
use Rattle.laws.proofs.mask_of.Goals as goal
use Rattle.laws.proofs.mask_of.Goals.{then-test, else-test}

pub loop-t-init : goal.loop-t-init
loop-t-init g c = λ p h. rw c.none-mask.ensures (mask-begin p)

pub loop-t-preserved : goal.loop-t-preserved
loop-t-preserved g c = λ p h.
    let l = c.loop-t in
    let e = h l.t c.test.result c.loop-t-test.true c.test.ensures in
    elim c.if-test.branch [
      | then-test w ↦ λ j. ap (λ x. bit j (g.M.Mask.value x)) w.mask-is ∙ mask-with p l.t (g.M.Mask.value l.mask) (g.M.Mask.value w.with-mask.result) (l.invariant p h) e w.if-test.true (λ i. w.with-mask.ensures i ∙ ap (λ (k : ℕ). bit i (g.M.Mask.value l.mask) || eqb i k) w.number.ensures) j
      | else-test w ↦ λ j. ap (λ x. bit j (g.M.Mask.value x)) w.mask-is ∙ mask-miss p l.t (g.M.Mask.value l.mask) (l.invariant p h) e w.if-test.false j
    ]

pub returns : goal.returns
returns g c = λ p h.
    mask_done p c.args.n c.loop-t.t (g.M.Mask.value c.loop-t.mask) c.loop-t.auto.t-end c.loop-t-test.false (c.loop-t.invariant p h)
