use Prim.Native.Nat.{◌+◌, ◌-◌}
use native.Mathlib.Omega.{arith}
use mathlib.Core.Path.{◌≡◌, refl}
use Rattle.bench.specs.View.{left_by}
use Rattle.coding.proofs.CallLaws.{whole-call}
use Rattle.replay.proofs.CodeLaws.{lent_code, not-lent}
use Rattle.replay.proofs.TurnLaws.{lend-fits, turned-compile, turned-halt, turned-lent, turned_plain}
use borrow.Author.Rules.{rules}
use Rattle.replay.proofs.take_turn.Goals as goal

pub returns-in_err-n : goal.returns-in_err-n
returns-in_err-n c =
    rw c.from_residual.ensures (turned-halt c.args.b.now c.args.s.now c.args.out.now c.read_next.ensures c.in_err-n.was)

pub overflow_add-lend : goal.overflow_add-lend
overflow_add-lend c =
    let a = c.args in record { fits = omega (arith, lend-fits a.b.now a.s.now a.out.now c.read_next.ensures c.in_ok-n.n c.in_ok-n.was (lent_code _ c.if-n.true)) }

pub slice_bounds-run_lent-end : goal.slice_bounds-run_lent-end
slice_bounds-run_lent-end c =
    let a = c.args in search (rules, lend-fits a.b.now a.s.now a.out.now c.read_next.ensures c.in_ok-n.n c.in_ok-n.was (lent_code _ c.if-n.true))

pub overflow_add-result : goal.overflow_add-result
overflow_add-result c =
    let a = c.args in record { fits = omega (arith, lend-fits a.b.now a.s.now a.out.now c.read_next.ensures c.in_ok-n.n c.in_ok-n.was (lent_code _ c.if-n.true)) }

pub returns-then-n : goal.returns-then-n
returns-then-n c =
    let g = c.run_lent-reply in
    let n = c.in_ok-n.n.lend in
    let same : 5 + n - 5 ≡ n = omega arith in
    turned-lent _ _ _ c.read_next.ensures c.in_ok-n.n c.in_ok-n.was _ g.new.out _ (5 + n - 5) _ (left_by c.args.b.now g.result) (lent_code _ c.if-n.true)
    same (search rules) c.past.ensures c.front-file.ensures g.ensures refl c.head-head.ensures

pub returns-then-n-eq4 : goal.returns-then-n-eq4
returns-then-n-eq4 c =
    let a = c.args in
    turned-compile a.b.now a.s.now a.out.now c.read_next.ensures c.in_ok-n.n c.in_ok-n.was _ _ c.if-n-eq4.true c.run_compile-d.ensures c.finish.ensures

pub run_call-reply-requires : goal.run_call-reply-requires
run_call-reply-requires c =
    let w = whole-call _ _ c.in_ok-n.n c.read_next.ensures c.in_ok-n.was in
    (w.least, (w.known, (c.if-n-eq4.false, not-lent _ c.if-n.false)))

pub returns : goal.returns
returns c =
    let a = c.args in
    turned_plain a.b.now a.s.now a.out.now c.read_next.ensures c.in_ok-n.n c.in_ok-n.was _ _ (not-lent _ c.if-n.false).0 (not-lent _ c.if-n.false).1
    c.past.ensures c.front-file.ensures c.run_call-reply.ensures c.finish-2.ensures

pub run_lent-reply-requires : goal.run_lent-reply-requires
run_lent-reply-requires c = lent_code _ c.if-n.true
