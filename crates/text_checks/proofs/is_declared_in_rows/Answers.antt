use Rattle.std.proofs.Common.{arith, rules}
use Rattle.laws.proofs.LoopLaws.{any-begin}
use Rattle.text_outlines.proofs.WalkLaws.{walk-begin}
use Rattle.text_checks.proofs.LookedLaws.{looked-done, looked-found, looked-next}
use Rattle.text_checks.proofs.ReachedLaws.{row-ends, row-is, row-next}
use Rattle.text_checks.proofs.is_declared_in_rows.Goals as goal

pub loop-j-init : goal.loop-j-init
loop-j-init c = search (rules, any-begin, walk-begin)

pub returns-then-is_named_in_row : goal.returns-then-is_named_in_row
returns-then-is_named_in_row c =
    let r = c.scan_row-row in
    looked-found _ _ _ c.loop-j.j _ (row-is c.loop-j.invariant.0 (omega arith) r.ensures r.result.ends) c.is_named_in_row.ensures c.loop-j-test.true
    c.if-is_named_in_row.true

pub unwrap-rest-requires : goal.unwrap-rest-requires
unwrap-rest-requires c = row-ends c.loop-j.invariant.0 (omega arith) c.scan_row-row.ensures _ c.after.ensures

pub loop-j-preserved : goal.loop-j-preserved
loop-j-preserved c =
    let r = c.scan_row-row in (
      row-next c.loop-j.invariant.0 (omega arith) r.ensures c.after.ensures _ c.unwrap-rest.ensures,
      looked-next _ _ _ c.loop-j.j _ (row-is c.loop-j.invariant.0 (omega arith) r.ensures r.result.ends) c.is_named_in_row.ensures c.loop-j.invariant.1
          c.if-is_named_in_row.false,
    )

pub returns : goal.returns
returns c = search (rules, looked-done)
