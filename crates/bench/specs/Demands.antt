-- The three demands, and what 02 promises of calls besides, over runs of the code's own calls from the fresh bench. They are those of
-- the steps (`Defined`, `Exact`, `NoneOverlooked`, `ConverterGives`), of the outcome that each call of the code stands for.
-- That a call returns at all is part of what is proved of its function: the prover accepts a function only where every loop and every
-- recursion in it and in what it calls has a number that falls, so each call that is made ends, and with the reply that is said here.
-- Assumes nothing.
use Rattle.std.specs.Prelude.{◌≤◌, ℕ, true, List, [], ◌≡◌}
use Rattle.std.proofs.Math.Option.{some}
use Rattle.files.specs.Diagram.{Diagram}
use Rattle.rules.specs.Heads.{all_headed}
use Rattle.smallest_records.specs.Difference.{Gap}
use Rattle.steps.specs.Bench.{Compare, Convert, HandOut, difference, is_refusal, no_difference}
use Rattle.steps.specs.Demands.{ConverterGives, Defined, Exact, NoneOverlooked}
use Rattle.steps.specs.HandedOut.{HandedOut}
use Rattle.steps.specs.Row.{KeepsWitness}
use Rattle.steps.specs.Step.{Step}
use Rattle.bench.specs.Calls.{Does, Valid}
use Rattle.bench.specs.Runs.{Did, Made, ReachedIn, Run, after, event_of, events_of, outcome_of}
use Rattle.bench.specs.View.{bench_of}
use Rattle.bench.specs.declared.parts.Bench.{Bench}
use Rattle.bench.specs.declared.Replied.{Replied}

-- ---- demand 1: every call gets a defined reply, and a refusal changes nothing

pub record Answered (b : Bench) (m : Made) : Type 0 where
  -- the reply, the bench afterwards and every byte of the buffer are those of 01
  pub step : Step (bench_of b) (event_of m).call (event_of m).outcome
  pub defined : Defined (bench_of b) (event_of m).call (event_of m).outcome
  -- refused, the bench in memory is as it came, byte for byte
  pub bench : is_refusal (event_of m).outcome.reply ≡ true → after m ≡ b

-- The places of every bench that is reached hold diagrams that were read, and its witness has an index for everything; a call requires nothing.
abbrev pub RunsDemandOne : Type 0
RunsDemandOne = (b : Bench) → ReachedIn b → Valid b × ((m : Made) → Did b m → Answered b m)

-- ---- demand 2: files, judgements and predicates are those of 01

abbrev pub RunsDemandTwo : Type 0
RunsDemandTwo = (b : Bench) → ReachedIn b → (p : ℕ) → p ≤ 1 → Exact (bench_of b) p

-- ---- demand 3: no record is overlooked

pub record Compared (old new : Diagram) (bound : ℕ) (r : Replied) : Type 0 where
  pub none-overlooked : NoneOverlooked old new bound (outcome_of r [])
  -- what is handed out by the code, behind a run of its calls none of which drops or stores a witness
  pub handed-out : (n : ℕ) → (outcome_of r []).reply ≡ difference n → (ms : List Made) (c : Bench) → Run r.bench ms c → KeepsWitness (events_of ms)
      → (buffer : List ℕ) (p : Replied) (given : List ℕ) → Does c (HandOut buffer) p given → HandedOut (Gap old new) n buffer (outcome_of p given)

-- "Old and new are the diagrams in places 0 and 1 of the bench that compare gets."
abbrev pub RunsDemandThree : Type 0
RunsDemandThree =
    (b : Bench) → ReachedIn b → (old new : Diagram) → (bench_of b).old ≡ some old → (bench_of b).new ≡ some new
    → (bound : ℕ) → bound ≤ 8 → (r : Replied) → Does b (Compare bound) r [] → Compared old new bound r

-- ---- 02 4/12: "A converter writes an edition 1 file as edition 2 and the other way about"

abbrev pub RunsConverter : Type 0
RunsConverter =
    (b : Bench) → ReachedIn b → (file buffer : List ℕ) (r : Replied) (after : List ℕ) → Does b (Convert file buffer) r after
    → ConverterGives (bench_of b) file buffer (outcome_of r after)

-- ---- 02 2/12: "Two diagrams that differ only in ↔ against no arrowhead have no difference at any bound."

abbrev pub RunsSameHeads : Type 0
RunsSameHeads =
    (b : Bench) → ReachedIn b → (old new : Diagram) → (bench_of b).old ≡ some old → (bench_of b).new ≡ some new → all_headed old ≡ all_headed new
    → (bound : ℕ) → bound ≤ 8 → (r : Replied) → Does b (Compare bound) r [] → (outcome_of r []).reply ≡ no_difference
