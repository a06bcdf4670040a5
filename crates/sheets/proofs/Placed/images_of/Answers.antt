use Prim.Native.Nat.{◌<◌, ℕ}
use mathlib.Core.Bool.{Bool}
use mathlib.Core.Path.{◌∙◌, ◌≡◌, ap, refl}
use lib.ListN.{get_or}
use native.Mathlib.Omega.{arith}
use Rattle.laws.specs.Bits.{bit}
use Rattle.sheets.proofs.ImageLaws.{shown-begin, shown-below, shown-done, shown-hit, shown-miss}
use borrow.Author.Rules.{rules}
use Rattle.sheets.proofs.Placed.images_of.Goals as goal
use Rattle.sheets.proofs.Placed.images_of.Goals.{then-is_shown, else-is_shown}

pub loop-i-init : goal.loop-i-init
loop-i-init c = shown-begin _ _ _

pub with-mask-requires : goal.with-mask-requires
with-mask-requires c =
    let p = c.args.self.now in
    let f : get_or p.images c.loop-i.i 0 < p.k = shown-below (get_or p.images c.loop-i.i 0) p.k (bit c.loop-i.i c.args.chosen) c.is_shown.ensures c.if-is_shown.true in
    let g : c.from-then-is_shown.result ≡ get_or p.images c.loop-i.i 0 = c.from-then-is_shown.ensures ∙ ap (λ (n : ℕ). get_or p.images n 0) c.from.ensures in
    omega (arith, p.known)

pub loop-i-preserved : goal.loop-i-preserved
loop-i-preserved c =
    let p = c.args.self.now in
    let on : ℕ → Bool = λ i. bit i c.args.chosen in
    let e = c.is_shown.ensures in elim c.if-is_shown.branch [
      | then-is_shown w ↦ (λ j. ap (bit j) w.mask-is ∙ shown-hit p.images on p.k c.loop-i.i c.loop-i.mask w.with-mask.result e refl w.if-is_shown.true w.from.ensures w.from-then-is_shown.ensures w.with-mask.ensures c.loop-i.invariant j)
      | else-is_shown w ↦ (λ j. ap (bit j) w.mask-is ∙ shown-miss p.images on p.k c.loop-i.i c.loop-i.mask e refl w.if-is_shown.false c.loop-i.invariant j)
    ]

pub returns : goal.returns
returns c =
    let a = c.args in
    shown-done a.self.now.images (λ i. bit i a.chosen) a.self.now.k a.self.now.m c.loop-i.i c.loop-i.mask c.loop-i.auto.i-end (search rules) c.loop-i.invariant
