-- Rows of the code's own calls, over the bench in memory.
-- Each call of a run keeps its promise (`Does`).
-- Assumes nothing.
use Rattle.std.specs.Prelude.{ℕ, List, [], ◌∷◌, map, ◌≡◌}
use Rattle.steps.specs.Bench.{Call, Compile, Outcome}
use Rattle.steps.specs.Row.{Event, Row}
use Rattle.bench.specs.Calls.{Does, DoesWith, Valid}
use Rattle.bench.specs.View.{bench_of, fresh_in, reply_of}
use Rattle.bench.specs.declared.parts.Bench.{Bench}
use Rattle.bench.specs.declared.Listed.{Listed}
use Rattle.bench.specs.declared.Replied.{Replied}

-- a call that was made, and what it gave
pub data Made : Type 0 where
  replied : Call → Replied → List ℕ → Made  -- the call, what it returned, what the lent buffer holds afterwards
  listed : ℕ → Listed → Made  -- compile: the place, what it returned

-- the call kept its promise on the bench b
abbrev pub Did : Bench → Made → Type 0
Did b (replied c r buffer) = Does b c r buffer
Did b (listed p r) = DoesWith b (Compile p) r

-- the bench that the call returned
abbrev pub after : Made → Bench
after (replied c r buffer) = r.bench
after (listed p r) = r.bench

-- each call gets the bench that the one before returned
abbrev pub Run : Bench → List Made → Bench → Type 0
Run b [] last = b ≡ last
Run b (m ∷ ms) last = Did b m × Run (after m) ms last

-- "A bench is the fresh one or one that a call returned."
abbrev pub ReachedIn : Bench → Type 0
ReachedIn b = (ms : List Made) × Run fresh_in ms b

-- ---- what a run stands for

abbrev pub outcome_of : Replied → List ℕ → Outcome
outcome_of r buffer = record { reply = reply_of r.reply []; bench = bench_of r.bench; buffer = buffer }

abbrev pub event_of : Made → Event
event_of (replied c r buffer) = record { call = c; outcome = outcome_of r buffer }
event_of (listed p r) = record { call = Compile p; outcome = record { reply = reply_of r.reply r.list; bench = bench_of r.bench; buffer = [] } }

abbrev pub events_of : List Made → List Event
events_of ms = map event_of ms

-- a run of the code's calls is a row of 01's steps
abbrev pub RunsRow : Type 0
RunsRow = (b : Bench) (ms : List Made) (c : Bench) → Run b ms c → Row (bench_of b) (events_of ms) (bench_of c)

-- what holds of every bench holds of one that a run from the fresh one reaches
abbrev pub RunsValid : Type 0
RunsValid = (b : Bench) → ReachedIn b → Valid b
