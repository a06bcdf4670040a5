use native.Mathlib.Omega.{arith}
use Rattle.sheets.proofs.TypeSetLaws.{single-bit}
use Rattle.sheets.proofs.singles_by.Goals as goal

pub invariant_of-placed : goal.invariant_of-placed
invariant_of-placed c = record { few = omega (arith, c.args.by.now.new.now.held.counts.types); known = c.requires }

pub returns : goal.returns
returns c =
    let f = c.type_places-images in
    let chosen = c.singles_of in
    single-bit c.args.by.now.old.now.stored c.args.by.now.new.now.stored f.result f.ensures chosen.result c.args.k c.images_of.result chosen.ensures c.images_of.ensures
