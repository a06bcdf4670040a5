-- The replies to a list of calls are a row of steps, coded: call by call.
-- Assumes nothing.
use mathlib.Core.List.{List, [], ◌∷◌, ◌++◌}
use mathlib.Core.Path.{refl, ap}
use Prim.Native.Nat.{ℕ}
use Rattle.steps.specs.Bench.{Bench}
use Rattle.coding.specs.ReplyBytes.{outcome_bytes}
use Rattle.replay.specs.Replays.{CodesRow, Replays, ReplaysRow, full, goes, halts, row_bytes}

codes-row : {b : Bench} {s room replies : List ℕ} → Replays b s room replies → CodesRow b s room replies
unfolding row_bytes
codes-row {b} (halts e) = record { events = []; last = b; row = refl; of_calls = tt; coded = refl }
codes-row {b} (full o e st l) = record { events = []; last = b; row = refl; of_calls = tt; coded = refl }
codes-row (goes {rest} {c} o e st l r) =
    let q = codes-row r in
    record {
      events = record { call = c; outcome = o } ∷ q.events;
      last = q.last;
      row = (st, q.row);
      of_calls = (rest, e, q.of_calls);
      coded = ap (λ (x : List ℕ). outcome_bytes c o ++ x) q.coded;
    }

pub replays-row : ReplaysRow
replays-row b s room replies r = codes-row r
