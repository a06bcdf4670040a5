use Rattle.clashes.proofs.ClashLaws.{never-row}
use Rattle.clashes.proofs.counts.is_apart_from_row.Goals as goal

pub returns : goal.returns
returns c =
    let a = c.args in
    let x = a.asked.limits in
    λ e. never-row a.asked.first a.asked.here x.slot x.from x.least x.most a.tables.now.targets a.tables.now.lows a.tables.now.highs a.there a.back c.place-y.result c.requires c.place-y.ensures (c.is_apart_back.ensures e a.back)
