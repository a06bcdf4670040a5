use Prim.Native.Nat.{◌*◌, ◌<◌, ℕ}
use mathlib.Core.Path.{◌≡◌, subst}
use lib.ListN.{get_or}
use Rattle.laws.specs.Bits.{bit}
use Rattle.diagrams.specs.declared.Associations.{Associations}
use Rattle.sheets.specs.RowsBy.{high_at, leads_at, low_at, target_at}
use Rattle.sheets.proofs.RowLaws.{rows_are}
use Rattle.sheets.proofs.rows_by.Goals as goal

pub returns : goal.returns
returns c =
    let by = c.args.by.now in
    let ends = c.of in
    let e = ends.result in
    let r = c.rows_of.result in
    let rows = c.rows_of.ensures in
    rows_are by.old.now.stored by.new.now.stored by.old.now.held by.new.now.held e.sets e.slots ends.ensures.sets ends.ensures.slots r.targets r.lows r.highs
    (subst (λ (k : ℕ). (x u : ℕ) → x < 768 → u < 24 → bit u (get_or r.targets x 0) ≡ target_at e.sets (leads_at e.sets by.new.now.stored.associations.arrows e.slots k x) (by.new.now.stored.associations.count * 2) u) ends.ensures.types
    (subst (λ (a : Associations). (x u : ℕ) → x < 768 → u < 24 → bit u (get_or r.targets x 0) ≡ target_at e.sets (leads_at e.sets a.arrows e.slots e.types x) (a.count * 2) u) ends.ensures.asked rows.targets))
    (subst (λ (k : ℕ). (x : ℕ) → x < 768 → get_or r.lows x 0 ≡ low_at by.new.now.stored.associations.lows (leads_at e.sets by.new.now.stored.associations.arrows e.slots k x) (by.new.now.stored.associations.count * 2)) ends.ensures.types
    (subst (λ (a : Associations). (x : ℕ) → x < 768 → get_or r.lows x 0 ≡ low_at a.lows (leads_at e.sets a.arrows e.slots e.types x) (a.count * 2)) ends.ensures.asked rows.lows))
    (subst (λ (k : ℕ). (x : ℕ) → x < 768 → get_or r.highs x 0 ≡ high_at by.new.now.stored.associations.ups (leads_at e.sets by.new.now.stored.associations.arrows e.slots k x) (by.new.now.stored.associations.count * 2)) ends.ensures.types
    (subst (λ (a : Associations). (x : ℕ) → x < 768 → get_or r.highs x 0 ≡ high_at a.ups (leads_at e.sets a.arrows e.slots e.types x) (a.count * 2)) ends.ensures.asked rows.highs))
