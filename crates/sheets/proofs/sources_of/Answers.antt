use Prim.Native.Nat.{◌+◌}
use mathlib.Core.Path.{◌∙◌, ◌≡◌, ap, subst, sym}
use lib.ListN.{get_or, length}
use native.Mathlib.Omega.{arith}
use Rattle.sheets.proofs.TurnLaws.{TurnedTo, turned-begin, turned-done, turned-next, turned-skip}
use borrow.Author.Rules.{rules}
use Rattle.sheets.proofs.sources_of.Goals as goal
use Rattle.sheets.proofs.sources_of.Goals.{then-mask-gt0, else-mask-gt0}

pub loop-x-init : goal.loop-x-init
loop-x-init c = (
  search rules,
  turned-begin c.args.targets.now,
)

pub mask_slot-requires : goal.mask_slot-requires
mask_slot-requires c = (search rules, c.loop-x.invariant.0)

pub loop-x-preserved : goal.loop-x-preserved
loop-x-preserved c = let a = c.args in (
  elim c.if-mask-gt0.branch [ then-mask-gt0 w ↦ ap length w.r-is ∙ w.mask_slot.ensures.size | else-mask-gt0 w ↦ ap length w.r-is ∙ c.loop-x.invariant.0 ],
  elim c.if-mask-gt0.branch [
    | then-mask-gt0 w ↦ subst (TurnedTo a.targets.now (c.loop-x.x + 1)) (sym w.r-is) (turned-next a.targets.now c.loop-x.x c.loop-x.r w.mask_slot.new.masks w.with-one.result (omega arith) w.with-one.ensures c.loop-x.invariant.1 w.mask_slot.ensures)
    | else-mask-gt0 w ↦
        let z : get_or a.targets.now c.loop-x.x 0 ≡ 0 = omega (arith, w.if-mask-gt0.false) in
        subst (TurnedTo a.targets.now (c.loop-x.x + 1)) (sym w.r-is) (turned-skip a.targets.now c.loop-x.x c.loop-x.r z c.loop-x.invariant.1)
  ],
)

pub returns : goal.returns
returns c = turned-done c.args.targets.now c.loop-x.x c.loop-x.r (search rules) c.loop-x.invariant.1
