use Prim.Native.Nat.{◌*◌, ℕ}
use native.Mathlib.Omega.{arith}
use mathlib.Core.Bool.{Bool}
use mathlib.Core.Path.{◌∙◌, ap}
use lib.ListN.{get_or, replicate}
use Rattle.sheets.specs.RowsBy.{leads_at, mask_at}
use Rattle.sheets.proofs.MaskRowLaws.{target-bit}
use Rattle.laws.proofs.ListLaws.{zeros}
use Rattle.sheets.proofs.places.targets_of.Goals as goal

pub returns : goal.returns
returns c =
    let e = c.args.ends.now in
    let led = c.masks_of-led in
    let n = e.asked.now.count * 2 in
    let p : ℕ → ℕ → Bool = leads_at e.sets e.asked.now.arrows e.slots e.types in
    λ x u lx lu.
    target-bit (p x) e.sets n u (get_or led.result x 0) (get_or c.masks_of.result x 0) (omega (arith, e.few)) lu
    (led.ensures x lx ∙ ap (λ (m : ℕ). mask_at 16777215 (replicate 32 16777215) m (p x) n) (zeros 768 x)) (c.masks_of.ensures x lx)
