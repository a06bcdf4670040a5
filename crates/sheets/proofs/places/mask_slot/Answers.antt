use Prim.Native.Nat.{◌+◌, ◌<◌, ℕ}
use lib.ListN.{get_or}
use mathlib.Core.List.{List}
use mathlib.Core.Path.{refl, subst, sym}
use Rattle.laws.specs.Bits.{bit}
use Rattle.sheets.proofs.PlaceLaws.{place-slot, stepped-begin, stepped-done, stepped-hit, stepped-miss}
use native.Mathlib.Omega.{arith}
use lib.Bits.{bit_and, bit_or}
use Rattle.sheets.specs.RowsBy.{Stepped}
use borrow.Author.Rules.{rules}
use Rattle.sheets.proofs.places.mask_slot.Goals as goal
use Rattle.sheets.proofs.places.mask_slot.Goals.{then-is_among, else-is_among}

pub loop-t-init : goal.loop-t-init
loop-t-init c = stepped-begin _ _ _ _ c.requires.1

pub bounds-masks-at : goal.bounds-masks-at
bounds-masks-at c = let a = c.args in
    let h : a.s < 32 = place-slot a.s (bit c.loop-t.t a.set) c.is_among.ensures c.if-is_among.true in
    omega arith

pub bounds-masks-at-then-is_among : goal.bounds-masks-at-then-is_among
bounds-masks-at-then-is_among c = let a = c.args in
    let h : a.s < 32 = place-slot a.s (bit c.loop-t.t a.set) c.is_among.ensures c.if-is_among.true in
    omega arith

pub loop-t-preserved : goal.loop-t-preserved
loop-t-preserved c = let a = c.args in
    let e = c.is_among.ensures in
    let f : ℕ → ℕ = λ m. bit_and (bit_or m a.more) a.keep in elim c.if-is_among.branch [
      | then-is_among w ↦ subst (λ (r : List ℕ). Stepped f a.set a.s (c.loop-t.t + 1) a.masks.now r) (sym w.masks-is)
          (stepped-hit f a.set a.s a.masks.now c.loop-t.t c.loop-t.masks w.place-at.result (f (get_or c.loop-t.masks w.place-at.result 0)) (omega arith) e w.if-is_among.true w.place-at.ensures refl c.loop-t.invariant)
      | else-is_among w ↦ subst (λ (r : List ℕ). Stepped f a.set a.s (c.loop-t.t + 1) a.masks.now r) (sym w.masks-is)
          (stepped-miss f a.set a.s a.masks.now c.loop-t.t c.loop-t.masks e w.if-is_among.false c.loop-t.invariant)
    ]

pub returns : goal.returns
returns c = let a = c.args in
    stepped-done (λ m. bit_and (bit_or m a.more) a.keep) a.set a.s a.masks.now a.k c.loop-t.t c.loop-t.masks c.loop-t.auto.t-end (search rules) c.loop-t.invariant
