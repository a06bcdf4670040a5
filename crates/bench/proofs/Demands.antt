-- The demands: a run of the code's calls is a row of steps, of which they hold.
-- Assumes nothing.
use mathlib.Core.List.{[]}
use Rattle.steps.proofs.ConverterLaws as converter_laws
use Rattle.steps.proofs.Demands as steps
use Rattle.bench.specs.Demands.{RunsConverter, RunsDemandOne, RunsDemandThree, RunsDemandTwo, RunsSameHeads}
use Rattle.bench.specs.Runs.{events_of, outcome_of}
use Rattle.bench.specs.View.{bench_of}
use Rattle.bench.proofs.RunLaws.{made-refused, made-step, run_row, runs-reach, runs-valid}

pub demand-one : RunsDemandOne
demand-one b r = (
  runs-valid b r,
  λ m d. record { step = made-step b m d; defined = steps.demand-one _ _ _ (made-step b m d); bench = made-refused b m d },
)

pub demand-two : RunsDemandTwo
demand-two b r p h = steps.demand-two (bench_of b) (runs-reach b r) p h

pub demand-three : RunsDemandThree
demand-three b reached old new eo en bound h r m =
    let all = steps.demand-three (bench_of b) old new eo en bound h (outcome_of r []) m.step in
    record {
      none-overlooked = all;
      handed-out = λ n i ms c run k buffer p given o. all.handed-out n i (events_of ms) (bench_of c) (run_row r.bench ms c run) k buffer (outcome_of p given) o.step;
    }

pub converter : RunsConverter
converter b reached file buffer r after m = converter_laws.converter (bench_of b) file buffer (outcome_of r after) m.step

pub same-heads : RunsSameHeads
same-heads b reached old new eo en h bound l r m = steps.same-heads (bench_of b) old new eo en h bound l (outcome_of r []) m.step
