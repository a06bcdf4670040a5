use Rattle.comparing.proofs.CompareLaws.{compared, few-objects}
use Rattle.comparing.proofs.ReadyLaws.{ready}
use Rattle.sheets.proofs.SheetLaws.{own-slotted}
use Rattle.comparing.proofs.compare.Goals as goal

pub invariant_of-tables : goal.invariant_of-tables
invariant_of-tables c = record {
  slotted = own-slotted c.args.old.stored c.args.old.held _ c.lines_by.ensures;
  turned = c.sources_of-sources.ensures;
}

pub least-requires : goal.least-requires
least-requires c = let e = c.of.ensures in (
  rw (e.0, e.1) (ready c.args.old.stored c.args.new.stored c.args.old.held c.rows_by.ensures c.narrowed-targets.ensures c.lines_by.ensures
      (rw e.0 at c.usable_types-usable.ensures) c.single_types.ensures c.rows_by-2.ensures c.lines_by-2.ensures c.single_types-2.ensures
      c.single_missing.ensures (rw (e.0, e.1) at c.bad_types.ensures) c.missing_links.ensures),
  few-objects c.args.bound c.min.result c.min.ensures,
)

pub returns : goal.returns
returns c = compared c.args.old.held.wf c.min.ensures (rw (c.of.ensures.0, c.of.ensures.1) at c.least.ensures)
