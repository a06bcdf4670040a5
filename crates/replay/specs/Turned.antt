-- What one call of a list gives: nothing, where the list stops; else its reply at the front of the room, and the bench for the next.
-- Assumes nothing.
use Rattle.std.specs.Prelude.{ℕ, ◌<◌, ◌≤◌, List, [], ◌++◌, ◌≡◌, drop, length, Option, None, Some}
use Rattle.laws.specs.Lists.{over}
use Rattle.bench.specs.View.{bench_of}
use Rattle.bench.specs.declared.parts.Bench.{Bench}
use Rattle.coding.specs.Puts.{Puts}
use Rattle.replay.specs.Replays.{Replays}
use Rattle.replay.specs.declared.Turn.{Turn}

-- the reply was written and the bench e left, and with the replies to the calls behind it they are the replies to all
pub record Went (b : Bench) (s room : List ℕ) (t : Turn) (e : Bench) (after : List ℕ) : Type 0 where
  pub reply : List ℕ
  pub some : 0 < t.used
  pub little : t.used ≤ length s
  pub count : t.wrote ≡ length reply
  pub fits : length reply ≤ length room
  pub bytes : after ≡ over reply room
  pub on : (more : List ℕ) → Replays (bench_of e) (drop t.used s) (drop t.wrote room) more → Replays (bench_of b) s room (reply ++ more)

abbrev pub Turned : Bench → List ℕ → List ℕ → Option Turn → Bench → List ℕ → Type 0
Turned b s room (Some t) e after = Went b s room t e after
Turned b s room None e after = Replays (bench_of b) s room [] × (after ≡ room)

-- a reply with the bytes xs was written, of a call that took k bytes
abbrev pub Wrote : ℕ → List ℕ → List ℕ → Option Turn → List ℕ → Type 0
Wrote k xs room (Some t) after = (t.used ≡ k) × Puts xs room (Some t.wrote) after
Wrote k xs room None after = Puts xs room None after
