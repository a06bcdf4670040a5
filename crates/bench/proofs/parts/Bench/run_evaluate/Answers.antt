use mathlib.Core.Path.{ap}
use Rattle.steps.specs.Bench.{Evaluate}
use Rattle.steps.specs.Step.{evaluated}
use Rattle.bench.specs.View.{bench_of, left_by}
use Rattle.bench.proofs.CallLaws.{whole-asks}
use Rattle.bench.proofs.parts.Bench.run_evaluate.Goals as goal

pub returns : goal.returns
returns c =
    let a = c.args in
    whole-asks a.self.now (Evaluate a.place a.file.now) (evaluated (bench_of a.self.now) a.place a.file.now) _ (ap (left_by a.self.now) c.told.ensures) c.evaluated.ensures (λ o e. e)
