-- `columns::with_sources` meets its contract.
-- Assumes nothing.
use Rattle.std.specs.Prelude.{Some}
use Rattle.demands.proofs.ColumnLaws.{sources-sharp}
use Rattle.demands.proofs.columns.with_sources.Goals as goal

pub returns : goal.returns
returns c =
    let a = c.args in
    sources-sharp a.s a.tables.now.sources (Some a.best) c.with_limits.result a.asked.slot a.asked.from a.asked.least a.asked.most a.p c.row-x.result c.requires.1 c.requires.0
    c.row-x.ensures.0 c.with_limits.ensures
