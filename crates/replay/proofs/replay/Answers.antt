use native.Mathlib.Omega.{arith}
use mathlib.Core.Path.{ap}
use borrow.Author.Rules.{rules}
use lib.ListN.{length, length-drop}
use Rattle.replay.proofs.GoingLaws.{begins, ends, goes_on, room_for}
use Rattle.replay.proofs.replay.Goals as goal

pub loop-t-init : goal.loop-t-init
loop-t-init c = begins _ _ _ c.fresh-b.ensures

pub overflow_add-at : goal.overflow_add-at
overflow_add-at c =
    let l = c.loop-t in
    let a = c.args in
    let h = room_for a.calls.now a.replies.now l.replies l.b l.rest.now l.at l.invariant _ c.in-Some.t _ c.in-Some.ensures in
    record { fits = omega (arith, h) }

pub loop-t-smaller : goal.loop-t-smaller
loop-t-smaller c =
    let w = c.in-Some.ensures in
    omega (arith, ap length c.past-rest.ensures, length-drop c.in-Some.t.used c.loop-t.rest.now, w.some, w.little)

pub loop-t-preserved : goal.loop-t-preserved
loop-t-preserved c =
    let l = c.loop-t in
    let a = c.args in
    goes_on a.calls.now a.replies.now l.replies l.b l.rest.now l.at l.invariant _ c.in-Some.t _ c.in-Some.ensures
    (search rules) _ c.past-rest.ensures

pub returns : goal.returns
returns c =
    let l = c.loop-t in
    let a = c.args in
    ends a.calls.now a.replies.now l.replies l.b l.rest.now l.at l.invariant _ c.in_default.ensures
