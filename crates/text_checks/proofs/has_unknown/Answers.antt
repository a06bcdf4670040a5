use Rattle.std.proofs.Common.{rules}
use Rattle.laws.proofs.LoopLaws.{any-begin}
use Rattle.text_outlines.proofs.WalkLaws.{walk-begin}
use Rattle.text_checks.proofs.OutlineLaws.{outline-below}
use Rattle.text_checks.proofs.ReachedLaws.{row-ends, row-is, row-next}
use Rattle.text_checks.proofs.UnknownLaws.{unknown-found, unknown-next, unknown-none}
use Rattle.text_checks.proofs.has_unknown.Goals as goal

pub loop-k-init : goal.loop-k-init
loop-k-init c = search (rules, any-begin, walk-begin)

pub has_unknown_parent-requires : goal.has_unknown_parent-requires
has_unknown_parent-requires c =
    let r = c.scan_row-row in
    (search rules, row-is c.loop-k.invariant.0 (outline-below c.args.o.now.outlines c.loop-k-test.true) r.ensures r.result.ends)

pub has_unknown_end-requires : goal.has_unknown_end-requires
has_unknown_end-requires c =
    let r = c.scan_row-row in
    row-is c.loop-k.invariant.0 (outline-below c.args.o.now.outlines c.loop-k-test.true) r.ensures r.result.ends

pub unwrap-rest-requires : goal.unwrap-rest-requires
unwrap-rest-requires c =
    row-ends c.loop-k.invariant.0 (outline-below c.args.o.now.outlines c.loop-k-test.true) c.scan_row-row.ensures _ c.after.ensures

pub returns-then-has_unknown_parent-has_unknown_end : goal.returns-then-has_unknown_parent-has_unknown_end
returns-then-has_unknown_parent-has_unknown_end c =
    unknown-found _ _ c.has_unknown_parent.ensures c.has_unknown_end.ensures c.args.o.now.outlines c.loop-k-test.true c.if-has_unknown_parent-has_unknown_end.true

pub loop-k-preserved : goal.loop-k-preserved
loop-k-preserved c = (
  row-next c.loop-k.invariant.0 (outline-below c.args.o.now.outlines c.loop-k-test.true) c.scan_row-row.ensures c.after.ensures _ c.unwrap-rest.ensures,
  unknown-next _ _ c.has_unknown_parent.ensures c.has_unknown_end.ensures c.loop-k.invariant.1 c.if-has_unknown_parent-has_unknown_end.false,
)

pub returns : goal.returns
returns c = search (rules, unknown-none)
