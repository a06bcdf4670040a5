use mathlib.Core.Bool.{◌&&◌}
use mathlib.Core.Logic.{⊎_elim}
use lib.Dec.{ltb}
use borrow.Author.Tests.{ltb-true}
use Rattle.laws.proofs.ConnectiveLaws.{and_left, and_right, or_cases}
use Rattle.clashes.proofs.ClashLaws.{back-less, back_more}
use Rattle.clashes.proofs.counts.is_apart_back.Goals as goal

pub returns : goal.returns
returns c =
    let a = c.args.asked in
    let x = a.limits in
    let more = ltb x.most c.args.low in
    let less = ltb c.args.high x.least in
    let y = c.is_inside.result in
    λ t u. ⊎_elim
    (λ e. let f = and_left (more && y) c.is_inside-2.result e in
    back_more a.first a.here x.slot x.from x.least x.most c.args.there u c.args.row c.args.low c.args.high (ltb-true x.most c.args.low (and_left more y f)) (c.is_inside.ensures (and_right more y f)) (c.is_inside-2.ensures (and_right (more && y) c.is_inside-2.result e)))
    (λ e. back-less a.first a.here x.slot x.from x.least x.most c.args.there u c.args.row c.args.low c.args.high (ltb-true c.args.high x.least (and_left less c.is_inside-3.result e)) (c.is_inside-3.ensures (and_right less c.is_inside-3.result e)))
    (or_cases (more && y && c.is_inside-2.result) (less && c.is_inside-3.result) t)
