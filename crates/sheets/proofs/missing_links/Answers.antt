use Prim.Native.Nat.{◌*◌, ℕ}
use mathlib.Core.Path.{◌≡◌, subst}
use Rattle.laws.specs.Bits.{bit}
use Rattle.laws.specs.Bounded.{any}
use Rattle.diagrams.specs.declared.Associations.{Associations}
use Rattle.sheets.specs.MasksBy.{missing_in}
use Rattle.sheets.proofs.TypeSetLaws.{missing-are}
use Rattle.sheets.proofs.missing_links.Goals as goal

pub returns : goal.returns
returns c =
    let by = c.args.by.now in
    let ends = c.of in
    let e = ends.result in
    let r = c.missing_of.result in
    missing-are by.old.now.stored by.new.now.stored by.new.now.held e.sets e.slots ends.ensures.sets ends.ensures.slots r
    (subst (λ (x : Associations). (t : ℕ) → bit t r ≡ any (λ i. bit t (missing_in e.sets x.arrows e.slots x.lows i)) (x.count * 2)) ends.ensures.asked c.missing_of.ensures)
