-- How a reply stands in bytes: a status byte, 0 for accepted or the refusal's number, and the payload where it was accepted.
-- The reply to a call that is lent a buffer is the status, four bytes of length written (zero where refused) and the buffer.
-- Assumes nothing.
use Rattle.std.specs.Prelude.{ℕ, ◌/◌, ◌%◌, List, [], ◌∷◌, ◌++◌}
use Rattle.std.proofs.Math.Option.{Option, none, some}
use Rattle.steps.specs.Bench.{Call, Outcome, Reply, difference, done, first_false, no_difference, records, refusal, rule, written}
use Rattle.steps.specs.Effect.{effect}

-- four bytes, high byte first
unfoldable pub four : ℕ → List ℕ
four n = n / 16777216 % 256 ∷ n / 65536 % 256 ∷ n / 256 % 256 ∷ n % 256 ∷ []

pub record ReplyParts : Type 0 where
  pub status : ℕ
  pub payload : List ℕ
  pub length : ℕ

-- compare: 0 for "no difference", 1 and the object count for "difference"
unfoldable pub parts_of : Reply → ReplyParts
parts_of done = record { status = 0; payload = []; length = 0 }
parts_of (rule n) = record { status = 0; payload = n ∷ []; length = 0 }
parts_of (records n list) = record { status = 0; payload = n ∷ list; length = 0 }
parts_of (first_false n) = record { status = 0; payload = n ∷ []; length = 0 }
parts_of no_difference = record { status = 0; payload = 0 ∷ []; length = 0 }
parts_of (difference n) = record { status = 0; payload = 1 ∷ n ∷ []; length = 0 }
parts_of (written n) = record { status = 0; payload = []; length = n }
parts_of (refusal n) = record { status = n; payload = []; length = 0 }

unfoldable pub reply_bytes : Reply → List ℕ
reply_bytes r = (parts_of r).status ∷ (parts_of r).payload

-- the first five bytes where a buffer is lent
unfoldable pub head_bytes : Reply → List ℕ
head_bytes r = (parts_of r).status ∷ four (parts_of r).length

-- by what is lent
unfoldable pub bytes_by : Option (List ℕ) → Outcome → List ℕ
bytes_by none o = reply_bytes o.reply
bytes_by (some buffer) o = head_bytes o.reply ++ o.buffer

unfoldable pub outcome_bytes : Call → Outcome → List ℕ
outcome_bytes c o = bytes_by (effect c).lends o
