use mathlib.Core.Path.{refl}
use Rattle.link_rules.proofs.JudgedLaws.{judged-fits, stored-judged}
use Rattle.link_rules.proofs.Links.of.Goals as goal

pub invariant_of-result : goal.invariant_of-result
invariant_of-result c =
    let v = c.args.roles.now in
    record { fits = judged-fits (stored-judged v.diagram.now.held v.instances v.slots refl v.few) }

pub returns-clause-judged : goal.returns-clause-judged
returns-clause-judged c =
    let v = c.args.roles.now in
    stored-judged v.diagram.now.held v.instances v.slots refl v.few
