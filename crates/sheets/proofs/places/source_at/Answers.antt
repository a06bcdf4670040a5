use Rattle.type_tables.specs.RowsIn.{other_end}
use Rattle.sheets.proofs.PlaceLaws.{source-no, source-yes}
use Rattle.sheets.proofs.places.source_at.Goals as goal

pub returns-then-is_carried : goal.returns-then-is_carried
unfolding other_end
returns-then-is_carried c = let a = c.args in
    source-yes a.ends.now.sets a.ends.now.asked.now.arrows a.e c.is_carried.ensures c.if-is_carried.true c.from.ensures

pub returns : goal.returns
returns c = let a = c.args in
    source-no a.ends.now.sets a.ends.now.asked.now.arrows a.e c.is_carried.ensures c.if-is_carried.false
