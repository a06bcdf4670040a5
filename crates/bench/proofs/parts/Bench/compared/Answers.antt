use Rattle.bench.proofs.CompareLaws.{compare-bound, compare-done, compare-new, compare-old, refused-chose}
use Rattle.bench.proofs.parts.Bench.compared.Goals as goal

pub returns-then-bound-gt8 : goal.returns-then-bound-gt8
returns-then-bound-gt8 c = compare-bound c.args.self.now c.args.bound c.if-bound-gt8.true

pub returns-in_err-old : goal.returns-in_err-old
returns-in_err-old c =
    refused-chose c.args.self.now c.args.bound _ _ c.from_residual.ensures.1
    (compare-old c.args.self.now c.args.bound c.if-bound-gt8.false _ c.in_err-old.ensures)

pub returns-in_err-new : goal.returns-in_err-new
returns-in_err-new c =
    refused-chose c.args.self.now c.args.bound _ _ c.from_residual-in_err-new.ensures.1
    (compare-new c.args.self.now c.args.bound c.if-bound-gt8.false _ c.in_ok-old.ensures _ c.in_err-new.ensures)

pub returns : goal.returns
returns c = compare-done c.args.self.now c.args.bound _ _ c.in_ok-old.ensures c.in_ok-new.ensures _ c.compare.ensures c.if-bound-gt8.false
