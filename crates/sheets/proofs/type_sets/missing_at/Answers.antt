use Rattle.sheets.proofs.TypeSetLaws.{missing-no, missing-yes}
use Rattle.sheets.proofs.type_sets.missing_at.Goals as goal

pub returns-then-ends-i : goal.returns-then-ends-i
returns-then-ends-i c = let a = c.args in
    missing-yes a.ends.now.sets a.ends.now.asked.now.arrows a.ends.now.slots a.ends.now.asked.now.lows a.e c.from-i.ensures c.if-ends-i.true c.source_at.ensures

pub returns : goal.returns
returns c = let a = c.args in
    missing-no a.ends.now.sets a.ends.now.asked.now.arrows a.ends.now.slots a.ends.now.asked.now.lows a.e c.from-i.ensures c.if-ends-i.false
