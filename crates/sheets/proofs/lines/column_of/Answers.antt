use Prim.Native.Nat.{min, ℕ}
use native.Mathlib.Omega.{arith}
use mathlib.Core.Bool.{Bool, cond, not}
use mathlib.Core.Path.{◌∙◌, ap, ap₂}
use lib.ListN.{get_or}
use Rattle.laws.specs.Connective.{either}
use Rattle.sheets.specs.LinesBy.{counted, counted_from, counted_to, end_if}
use Rattle.sheets.proofs.LineLaws.{column-past, column-there}
use Rattle.sheets.proofs.lines.column_of.Goals as goal

pub returns-then-ends-j : goal.returns-then-ends-j
returns-then-ends-j c =
    let e = c.args.ends.now in
    let a = e.asked.now in
    column-past e.sets e.slots a.arrows a.lows a.ups a.count c.args.j c.if-ends-j.true

pub returns : goal.returns
unfolding counted counted_to counted_from either
returns c =
    let e = c.args.ends.now in
    let a = e.asked.now in
    let right = c.counted_right-right.ensures in
    let on = ap₂ either right c.counted_left.ensures in
    let to = c.end_if-to.ensures.0 ∙ ap (λ (b : Bool). end_if b c.args.j) right in
    let from = c.end_if-from.ensures.0 ∙ ap (λ (b : Bool). end_if (not b) c.args.j) right in
    column-there e.sets e.slots a.arrows a.lows a.ups a.count c.args.j (omega (arith, c.if-ends-j.false))
    (c.pick.ensures ∙ ap₂ (λ (b : Bool) (i : ℕ). cond b (get_or e.slots i 0) 0) on to)
    (c.pick-2.ensures ∙ ap₂ (λ (b : Bool) (i : ℕ). cond b (get_or e.sets i 0) 0) on from)
    (c.pick-3.ensures ∙ ap₂ (λ (b : Bool) (i : ℕ). cond b (get_or e.sets i 0) 0) on to)
    (c.capped.ensures ∙ ap (λ (i : ℕ). min 9 (get_or a.lows i 0)) from)
    (c.capped-2.ensures ∙ ap (λ (i : ℕ). min 8 (get_or a.ups i 0)) from)
