use mathlib.Core.Path.{◌∙◌, ap}
use Rattle.steps.specs.Bench as abstract
use Rattle.bench.specs.View.{bench_of}
use Rattle.bench.proofs.AskLaws.{on-done, on-file, on-place}
use Rattle.bench.proofs.CallLaws.{passed}
use Rattle.bench.proofs.parts.Bench.judged.Goals as goal

pub returns-in_err-d : goal.returns-in_err-d
returns-in_err-d c = passed _ _ _ c.from_residual.ensures.1 ∙ on-place (bench_of c.args.self.now) c.args.place c.args.file.now _ _ c.in_err-d.ensures

pub returns-in_err-rule : goal.returns-in_err-rule
returns-in_err-rule c =
    passed _ _ _ c.from_residual-in_err-rule.ensures.1
    ∙ on-file (bench_of c.args.self.now) c.args.place c.args.file.now _ _ c.in_ok-d.ensures _ c.in_err-rule.ensures.refusal

pub returns : goal.returns
returns c =
    let e = c.in_ok-rule.ensures in
    on-done (bench_of c.args.self.now) c.args.place c.args.file.now _ _ _ c.in_ok-d.ensures e.refusal (λ r q. ap abstract.rule (e.rule r q))
