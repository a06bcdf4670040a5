-- What a list of calls in bytes gives: it is run from the fresh bench, call by call, and the replies stand one behind the other.
-- It stops at the first call that is cut off or unknown, or whose reply does not fit into what is left; of that call nothing is
-- written.
-- Assumes nothing.
use Rattle.std.specs.Prelude.{ℕ, ◌<◌, ◌≤◌, List, [], ◌∷◌, ◌++◌, ◌≡◌, drop, length}
use Rattle.laws.specs.Lists.{over}
use Rattle.steps.specs.Bench.{Bench, Call, Outcome, fresh}
use Rattle.steps.specs.Row.{Event, Row}
use Rattle.steps.specs.Step.{Step}
use Rattle.coding.specs.CallBytes.{call, halt, read_call}
use Rattle.coding.specs.ReplyBytes.{outcome_bytes}

-- from the bench b, the calls s give the replies of the last list, where `room` is there for them
pub data Replays : Bench → List ℕ → List ℕ → List ℕ → Type 0 where
  -- no further call stands there whole
  halts : {b : Bench} {s room : List ℕ} → read_call s room ≡ halt → Replays b s room []
  -- the reply does not fit
  full : {b : Bench} {s room rest : List ℕ} {c : Call} (o : Outcome)
      → read_call s room ≡ call c rest → Step b c o → length room < length (outcome_bytes c o) → Replays b s room []
  -- the call gives its reply, and the next one gets the bench that it returned and the room behind its reply
  goes : {b : Bench} {s room rest more : List ℕ} {c : Call} (o : Outcome)
      → read_call s room ≡ call c rest → Step b c o → length (outcome_bytes c o) ≤ length room
      → Replays o.bench rest (drop (length (outcome_bytes c o)) room) more → Replays b s room (outcome_bytes c o ++ more)

-- the promise: the replies are those of the calls from the fresh bench, n is how many bytes they are, and every byte behind them is
-- untouched
pub record Replayed (calls room : List ℕ) (n : ℕ) (after : List ℕ) : Type 0 where
  pub replies : List ℕ
  pub from-fresh : Replays fresh calls room replies
  pub count : n ≡ length replies
  pub bytes : after ≡ over replies room

-- ---- what the replies are: a row of steps, coded

unfoldable pub row_bytes : List Event → List ℕ
row_bytes [] = []
row_bytes (e ∷ es) = outcome_bytes e.call e.outcome ++ row_bytes es

-- the calls of the events stand at the front of s one behind the other, where `room` is there for their replies
abbrev pub Calls : List ℕ → List ℕ → List Event → Type 0
Calls s room [] = Unit {0}
Calls s room (e ∷ es) =
    (rest : List ℕ) × (read_call s room ≡ call e.call rest) × Calls rest (drop (length (outcome_bytes e.call e.outcome)) room) es

pub record CodesRow (b : Bench) (s room replies : List ℕ) : Type 0 where
  pub events : List Event
  pub last : Bench
  pub row : Row b events last
  pub of_calls : Calls s room events
  pub coded : replies ≡ row_bytes events

abbrev pub ReplaysRow : Type 0
ReplaysRow = (b : Bench) (s room replies : List ℕ) → Replays b s room replies → CodesRow b s room replies
