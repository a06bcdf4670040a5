-- 01 "The bench", 02 1/12 and 4/12: the bench, its parts, its calls and their replies.
-- Assumes nothing.
use Rattle.std.specs.Prelude.{ℕ, Bool, cond, false, true, List, [], eqb}
use Rattle.std.proofs.Math.Option.{Option, none}
use Rattle.files.specs.Diagram.{Diagram}
use Rattle.files.specs.Record.{Record}

-- "The bench has place 0 (old), place 1 (new) and at most one witness"
pub record Bench : Type 0 where
  pub old : Option Diagram
  pub new : Option Diagram
  pub witness : Option Record

-- "Fresh: all empty."
abbrev pub fresh : Bench
fresh = record { old = none; new = none; witness = none }

-- ---- calls and replies

pub data Call : Type 0 where
  Load : ℕ → List ℕ → Call  -- place, file
  Clear : ℕ → Call  -- place
  Judge : ℕ → List ℕ → Call  -- place, record file
  Compile : ℕ → Call  -- place
  Evaluate : ℕ → List ℕ → Call  -- place, record file
  Compare : ℕ → Call  -- bound
  HandOut : List ℕ → Call  -- what the buffer holds
  LoadText : ℕ → List ℕ → Call  -- place, text
  Convert : List ℕ → List ℕ → Call  -- diagram file, what the buffer holds

pub data Reply : Type 0 where
  done : Reply  -- the two loads and clear: "accepted"
  rule : ℕ → Reply  -- judge: 0, or the lowest rule broken
  records : ℕ → List ℕ → Reply  -- compile: their number, and the list of 64 entries
  first_false : ℕ → Reply  -- evaluate
  no_difference : Reply
  difference : ℕ → Reply  -- "with the object count"
  written : ℕ → Reply  -- hand out and convert: the length
  refusal : ℕ → Reply  -- "it returns only its number"

unfoldable pub is_refusal : Reply → Bool
is_refusal done = false
is_refusal (rule n) = false
is_refusal (records n list) = false
is_refusal (first_false n) = false
is_refusal no_difference = false
is_refusal (difference n) = false
is_refusal (written n) = false
is_refusal (refusal n) = true

-- what a call gives: its reply, the bench, and what the lent buffer holds afterwards ([] where none is lent)
pub record Outcome : Type 0 where
  pub reply : Reply
  pub bench : Bench
  pub buffer : List ℕ

abbrev pub gives : Reply → Bench → Outcome
gives reply b = record { reply = reply; bench = b; buffer = [] }

-- ---- parts of the bench

unfoldable pub place_of : ℕ → Bench → Option Diagram
place_of p b = cond (eqb p 0) b.old b.new

-- the place holds x, or is empty, and the witness is dropped
unfoldable pub settle : ℕ → Option Diagram → Bench → Bench
settle p x b =
    cond (eqb p 0)
    (record { old = x; new = b.new; witness = none })
    (record { old = b.old; new = x; witness = none })

-- the witness is stored or dropped
unfoldable pub with_witness : Option Record → Bench → Bench
with_witness w b = record { old = b.old; new = b.new; witness = w }
