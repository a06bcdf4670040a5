use lib.Bits.{bit_and, bit_or}
use native.Mathlib.Omega.{arith}
use mathlib.Core.Path.{ap, refl}
use Rattle.sheets.proofs.GatherLaws.{gathered-begin, gathered-done}
use Rattle.sheets.proofs.PlaceLaws.{stepped-next}
use Prim.Native.Nat.{◌*◌, ℕ}
use lib.ListN.{get_or}
use borrow.Author.Rules.{rules}
use Rattle.sheets.proofs.places.masks_of.Goals as goal

pub loop-e-init : goal.loop-e-init
loop-e-init c = (
  search rules,
  λ x h. gathered-begin _ _ (get_or c.args.start x 0),
)

pub mask_slot-requires : goal.mask_slot-requires
mask_slot-requires c = (c.args.ends.now.known, c.loop-e.invariant.0)

pub loop-e-preserved : goal.loop-e-preserved
loop-e-preserved c =
    let l = c.loop-e in
    let a = c.args in
    let e = a.ends.now in
    let p = c.mask_slot.ensures in (
      p.size,
      stepped-next (λ e m. bit_and (bit_or m a.more) (get_or a.keeps.now e 0)) (λ x. get_or a.start x 0) e.sets e.asked.now.arrows e.slots e.types l.e l.r c.mask_slot.new.masks (λ m. bit_and (bit_or m a.more) (get_or a.keeps.now c.from-i.result 0)) c.source_at-set.ensures c.from-i.ensures refl
          (λ m. ap (λ (i : ℕ). bit_and (bit_or m a.more) (get_or a.keeps.now i 0)) c.from-i.ensures) l.invariant.1 p,
    )

pub returns : goal.returns
returns c =
    let l = c.loop-e in
    let n = c.args.ends.now.asked.now.count * 2 in
    λ x h. gathered-done _ _ (get_or c.args.start x 0) n l.e (omega (arith, c.count-e-end.ensures, l.auto.e-end)) (omega (arith, c.count-e-end.ensures)) (l.invariant.1 x h)
