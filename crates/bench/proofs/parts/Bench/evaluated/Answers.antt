use native.Mathlib.Omega.{arith}
use mathlib.Core.Path.{◌∙◌, ap}
use Rattle.steps.specs.Bench as abstract
use Rattle.bench.specs.View.{bench_of}
use Rattle.bench.proofs.AskLaws.{first-few, on-done, on-file, on-place}
use Rattle.bench.proofs.CallLaws.{passed}
use Rattle.bench.proofs.parts.Bench.evaluated.Goals as goal

pub returns-in_err-d : goal.returns-in_err-d
returns-in_err-d c = passed _ _ _ c.from_residual.ensures.1 ∙ on-place (bench_of c.args.self.now) c.args.place c.args.file.now _ _ c.in_err-d.ensures

pub returns-in_err-first : goal.returns-in_err-first
returns-in_err-first c =
    passed _ _ _ c.from_residual-in_err-first.ensures.1
    ∙ on-file (bench_of c.args.self.now) c.args.place c.args.file.now _ _ c.in_ok-d.ensures _ c.in_err-first.ensures.refusal

pub overflow_cast-result : goal.overflow_cast-result
overflow_cast-result c = let few = first-few c.in_ok-d.d c.in_ok-first.ensures in record { fits = omega arith }

pub returns : goal.returns
returns c =
    let e = c.in_ok-first.ensures in
    on-done (bench_of c.args.self.now) c.args.place c.args.file.now _ _ _ c.in_ok-d.ensures e.refusal (λ r q. ap abstract.first_false (e.first r q))
