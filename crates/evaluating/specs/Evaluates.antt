-- What evaluating a record file under a diagram promises: its refusal, or the first compiled predicate that does not hold.
-- Assumes nothing.
use Rattle.std.specs.Prelude.{ℕ, List, ◌≡◌, Result, IfOk}
use Rattle.files.specs.Diagram.{Diagram}
use Rattle.files.specs.Record.{Record}
use Rattle.files.specs.RecordFile.{read_record}
use Rattle.files.specs.Refusal.{accepted, refusal_of}
use Rattle.rules.specs.Evaluate.{evaluate}
use Rattle.fields.specs.Refusal.{refusal_number}
use Rattle.fields.specs.declared.Refusal.{Refusal}

pub record Evaluates (d : Diagram) (file : List ℕ) (v : Result ℕ Refusal) : Type 0 where
  pub refusal : refusal_number v ≡ refusal_of (read_record file)
  pub first : IfOk v (λ n. (r : Record) → read_record file ≡ accepted r → n ≡ evaluate d r)
