use native.Mathlib.Omega.{arith}
use Rattle.sheets.proofs.EndLaws.{ends-are}
use Rattle.sheets.proofs.ends_by.Goals as goal

pub returns : goal.returns
returns c = let s = c.subtypes_by-subtypes in
    ends-are c.args.by.now.old.now.stored c.args.by.now.new.now.stored c.args.by.now.new.now.held s.result c.ends_of.result s.ensures (λ e h. c.ends_of.ensures e (omega (arith, c.args.by.now.new.now.held.counts.associations)))
