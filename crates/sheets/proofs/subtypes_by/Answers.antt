use native.Mathlib.Omega.{arith}
use Rattle.sheets.proofs.NamedLaws.{subtypes-are}
use Rattle.sheets.proofs.subtypes_by.Goals as goal

pub invariant_of-placed : goal.invariant_of-placed
invariant_of-placed c =
    let by = c.args.by.now in
    record { few = omega (arith, by.new.now.held.counts.types); known = omega (arith, by.old.now.held.counts.types) }

pub returns : goal.returns
returns c =
    let f = c.type_places-images in
    let new = c.args.by.now.new.now in
    subtypes-are c.args.by.now.old.now.stored new.stored new.held f.result f.ensures c.subtypes_all.result (λ x h. c.subtypes_all.ensures x (omega (arith, new.held.counts.types)) h)
