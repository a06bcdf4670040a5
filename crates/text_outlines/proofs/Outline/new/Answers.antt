use Rattle.std.proofs.Common.{refl}
use Rattle.text_outlines.proofs.OutlinedLaws.{forbidden-done, outlined-begin, outlined-done, outlined-next, outlined-on}
use Rattle.text_outlines.proofs.Outline.new.Goals as goal
use Rattle.text_outlines.proofs.Outline.new.Goals.{else-count-lt52, then-count-lt52}

pub loop-after-init : goal.loop-after-init
loop-after-init c = outlined-begin c.args.body.now c.scan_row-row.ensures refl

pub loop-after-preserved : goal.loop-after-preserved
loop-after-preserved c =
    let i = c.loop-after.invariant in
    let e = c.after.ensures.ends _ c.in-Some.is in
    let q = c.has_forbidden_end-forbidden.ensures in
    elim c.if-count-lt52.branch [
      | then-count-lt52 w ↦ rw (c.scan_row-row-in-Some.ensures, w.declarations-is) (outlined-next i e q w.if-count-lt52.true w.read_row.ensures)
      | else-count-lt52 w ↦ rw (c.scan_row-row-in-Some.ensures, w.declarations-is) (outlined-on i e q w.if-count-lt52.false)
    ]

pub invariant_of-result : goal.invariant_of-result
invariant_of-result c =
    let none = c.after.ensures.none_left c.in_default.is in
    record { outlines = outlined-done c.loop-after.invariant none; forbids = forbidden-done c.loop-after.invariant none }
