-- What judging a record file under a diagram promises: its refusal, or the lowest rule broken.
-- Assumes nothing.
use Rattle.std.specs.Prelude.{ℕ, List, ◌≡◌, Result, IfOk}
use Rattle.files.specs.Diagram.{Diagram}
use Rattle.files.specs.Record.{Record}
use Rattle.files.specs.RecordFile.{read_record}
use Rattle.files.specs.Refusal.{accepted, refusal_of}
use Rattle.rules.specs.Judge.{judge}
use Rattle.fields.specs.Refusal.{refusal_number}
use Rattle.fields.specs.declared.Refusal.{Refusal}

pub record Judges (d : Diagram) (file : List ℕ) (j : Result ℕ Refusal) : Type 0 where
  pub refusal : refusal_number j ≡ refusal_of (read_record file)
  pub rule : IfOk j (λ n. (r : Record) → read_record file ≡ accepted r → n ≡ judge d r)
