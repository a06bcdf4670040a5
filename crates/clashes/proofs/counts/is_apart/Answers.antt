use mathlib.Core.Bool.{◌&&◌}
use mathlib.Core.Logic.{⊎_elim}
use lib.Dec.{ltb}
use borrow.Author.Tests.{ltb-true}
use Rattle.laws.proofs.ConnectiveLaws.{and_left, and_right, or_cases}
use Rattle.clashes.proofs.ClashLaws.{apart-less, apart_more}
use Rattle.clashes.proofs.counts.is_apart.Goals as goal

pub returns : goal.returns
returns c =
    let a = c.args.asked in
    let x = a.limits in
    let more = ltb x.most c.args.low in
    let less = ltb c.args.high x.least in
    λ t. ⊎_elim
    (λ e. apart_more a.first a.here x.slot x.from x.least x.most c.args.other c.args.low c.args.high (ltb-true x.most c.args.low (and_left more c.is_inside.result e)) (c.is_inside.ensures (and_right more c.is_inside.result e)))
    (λ e. apart-less a.first a.here x.slot x.from x.least x.most c.args.other c.args.low c.args.high (ltb-true c.args.high x.least (and_left less c.is_inside-2.result e)) (c.is_inside-2.ensures (and_right less c.is_inside-2.result e)))
    (or_cases (more && c.is_inside.result) (less && c.is_inside-2.result) t)
