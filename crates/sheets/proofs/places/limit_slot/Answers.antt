use Prim.Native.Nat.{◌+◌, ◌<◌, max, min, ℕ}
use mathlib.Core.List.{List}
use mathlib.Core.Path.{subst, sym}
use Rattle.laws.specs.Bits.{bit}
use Rattle.sheets.proofs.PlaceLaws.{place-slot, stepped-begin, stepped-done, stepped-hit, stepped-miss}
use native.Mathlib.Omega.{arith}
use Rattle.sheets.specs.RowsBy.{Stepped}
use borrow.Author.Rules.{rules}
use Rattle.sheets.proofs.places.limit_slot.Goals as goal
use Rattle.sheets.proofs.places.limit_slot.Goals.{then-is_among, else-is_among}

pub loop-t-init : goal.loop-t-init
loop-t-init c = (
  stepped-begin _ _ _ _ c.requires.1,
  stepped-begin _ _ _ _ c.requires.2,
)

pub bounds-lows-at : goal.bounds-lows-at
bounds-lows-at c = let a = c.args in
    let h : a.s < 32 = place-slot a.s (bit c.loop-t.t a.set) c.is_among.ensures c.if-is_among.true in
    omega arith

pub bounds-lows-at-then-is_among : goal.bounds-lows-at-then-is_among
bounds-lows-at-then-is_among c = let a = c.args in
    let h : a.s < 32 = place-slot a.s (bit c.loop-t.t a.set) c.is_among.ensures c.if-is_among.true in
    omega arith

pub bounds-highs-at : goal.bounds-highs-at
bounds-highs-at c = let a = c.args in
    let h : a.s < 32 = place-slot a.s (bit c.loop-t.t a.set) c.is_among.ensures c.if-is_among.true in
    omega arith

pub bounds-highs-at-then-is_among : goal.bounds-highs-at-then-is_among
bounds-highs-at-then-is_among c = let a = c.args in
    let h : a.s < 32 = place-slot a.s (bit c.loop-t.t a.set) c.is_among.ensures c.if-is_among.true in
    omega arith

pub loop-t-preserved : goal.loop-t-preserved
loop-t-preserved c = let a = c.args in
    let e = c.is_among.ensures in (
      elim c.if-is_among.branch [
        | then-is_among w ↦ subst (λ (r : List ℕ). Stepped (λ m. max m a.low) a.set a.s (c.loop-t.t + 1) a.lows.now r) (sym w.lows-is)
            (stepped-hit (λ m. max m a.low) a.set a.s a.lows.now c.loop-t.t c.loop-t.lows w.place-at.result w.max.result (omega arith) e w.if-is_among.true w.place-at.ensures (search rules) c.loop-t.invariant.0)
        | else-is_among w ↦ subst (λ (r : List ℕ). Stepped (λ m. max m a.low) a.set a.s (c.loop-t.t + 1) a.lows.now r) (sym w.lows-is)
            (stepped-miss (λ m. max m a.low) a.set a.s a.lows.now c.loop-t.t c.loop-t.lows e w.if-is_among.false c.loop-t.invariant.0)
      ],
      elim c.if-is_among.branch [
        | then-is_among w ↦ subst (λ (r : List ℕ). Stepped (λ m. min m a.high) a.set a.s (c.loop-t.t + 1) a.highs.now r) (sym w.highs-is)
            (stepped-hit (λ m. min m a.high) a.set a.s a.highs.now c.loop-t.t c.loop-t.highs w.place-at.result w.min.result (omega arith) e w.if-is_among.true w.place-at.ensures (search rules) c.loop-t.invariant.1)
        | else-is_among w ↦ subst (λ (r : List ℕ). Stepped (λ m. min m a.high) a.set a.s (c.loop-t.t + 1) a.highs.now r) (sym w.highs-is)
            (stepped-miss (λ m. min m a.high) a.set a.s a.highs.now c.loop-t.t c.loop-t.highs e w.if-is_among.false c.loop-t.invariant.1)
      ],
    )

pub returns : goal.returns
returns c = let a = c.args in (
  stepped-done (λ m. max m a.low) a.set a.s a.lows.now a.k c.loop-t.t c.loop-t.lows c.loop-t.auto.t-end (search rules) c.loop-t.invariant.0,
  stepped-done (λ m. min m a.high) a.set a.s a.highs.now a.k c.loop-t.t c.loop-t.highs c.loop-t.auto.t-end (search rules) c.loop-t.invariant.1,
)
