-- 01 "The bench", words of demand 3: what a record handed out is, and that the reply of a call is settled.
-- Assumes nothing.
use Rattle.std.specs.Prelude.{◌≤◌, ℕ, false, List, ◌≡◌, drop, length, take}
use Rattle.std.proofs.Math.Option.{some}
use Rattle.files.specs.Diagram.{Diagram}
use Rattle.files.specs.Record.{Record, object_count}
use Rattle.smallest_records.specs.Difference.{Gap}
use Rattle.steps.specs.Bench.{Bench, Call, Compare, HandOut, Outcome, difference, is_refusal, written}
use Rattle.steps.specs.Row.{Event, KeepsWitness, Row}
use Rattle.steps.specs.Step.{Step}

-- What a hand out gives of a smallest record, of n objects, of those that S looks for.
-- "Its bytes are the buffer's first ones, as many as the length returned, whatever the buffer held before."
pub record HandedOut (S : List ℕ → Record → Type 0) (n : ℕ) (buffer : List ℕ) (o : Outcome) : Type 0 where
  -- "60,000 bytes are always enough and no refusal comes"
  pub enough : 60000 ≤ length buffer → is_refusal o.reply ≡ false
  -- the bytes are one of these records, of n objects, and none has fewer; the rest is untouched
  pub given : (m : ℕ) → o.reply ≡ written m → (r : Record) × S (take m o.buffer) r × (object_count r ≡ n)
  pub untouched : (m : ℕ) → o.reply ≡ written m → (drop m o.buffer ≡ drop m buffer) × (length o.buffer ≡ length buffer)
  pub least : (file : List ℕ) (r : Record) → S file r → n ≤ object_count r

-- "A record is handed out after "difference" when a hand out that isn't refused gets the bench that this compare returned, or the
-- one left by any row of calls from there, refused ones included, none of which drops or stores a witness." Old and new are those
-- of the bench that compare got.
abbrev pub HandsOut : Type 0
HandsOut =
    (b : Bench) (old new : Diagram) (bound n : ℕ) (o : Outcome) → b.old ≡ some old → b.new ≡ some new
    → Step b (Compare bound) o → o.reply ≡ difference n
    → (es : List Event) (c : Bench) → Row o.bench es c → KeepsWitness es
    → (buffer : List ℕ) (p : Outcome) → Step c (HandOut buffer) p → HandedOut (Gap old new) n buffer p

-- the reply of every call is settled, though compare's witness is free
abbrev pub OneReply : Type 0
OneReply = (b : Bench) (c : Call) (o p : Outcome) → Step b c o → Step b c p → o.reply ≡ p.reply
