-- A run of the code's calls is a row of 01's steps, so what holds of rows holds of runs.
-- The promise of each call has its step and what stays; a run has them one after the other.
-- Assumes nothing.
use mathlib.Core.Bool.{true}
use mathlib.Core.List.{[], ◌∷◌}
use mathlib.Core.Path.{◌≡◌, ap, refl, subst, sym}
use Rattle.steps.specs.Bench as abstract
use Rattle.steps.specs.Bench.{is_refusal}
use Rattle.steps.specs.Row as steps
use Rattle.steps.specs.Row.{Row}
use Rattle.steps.specs.Step.{Step}
use Rattle.bench.specs.Runs.{Did, Made, ReachedIn, RunsRow, RunsValid, after, event_of, events_of, listed, replied}
use Rattle.bench.specs.View.{bench_of, fresh_in}
use Rattle.bench.specs.declared.parts.Bench.{Bench}
use Rattle.bench.proofs.PartLaws.{valid}

-- ---- one call

pub made-step : (b : Bench) (m : Made) → Did b m → Step (bench_of b) (event_of m).call (event_of m).outcome
made-step b (replied c r buffer) d = d.step
made-step b (listed p r) d = d.step

pub made-refused : (b : Bench) (m : Made) → Did b m → is_refusal (event_of m).outcome.reply ≡ true → after m ≡ b
made-refused b (replied c r buffer) d h = d.stays.refused h
made-refused b (listed p r) d h = d.stays.refused h

made-bench : (m : Made) → (event_of m).outcome.bench ≡ bench_of (after m)
made-bench (replied c r buffer) = refl
made-bench (listed p r) = refl

-- ---- a run

pub run_row : RunsRow
run_row b [] last r = ap bench_of r
run_row b (m ∷ ms) last r =
    (made-step b m r.0, subst (λ (x : abstract.Bench). Row x (events_of ms) (bench_of last)) (sym (made-bench m)) (run_row (after m) ms last r.1))

-- ---- from the fresh bench

pub fresh-stands : bench_of fresh_in ≡ abstract.fresh
unfolding bench_of
fresh-stands = refl

pub runs-valid : RunsValid
runs-valid b r = valid b

pub runs-reach : (b : Bench) → ReachedIn b → steps.Reached (bench_of b)
runs-reach b r = (events_of r.0, subst (λ (x : abstract.Bench). Row x (events_of r.0) (bench_of b)) fresh-stands (run_row fresh_in r.0 b r.1))
