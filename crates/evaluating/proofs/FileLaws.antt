-- A record file that is refused has no record; one that is accepted is evaluated as the record in memory that stands for it.
-- Assumes nothing.
use Prim.Native.Nat.{ℕ}
use mathlib.Core.List.{List}
use mathlib.Core.Path.{◌≡◌, ap, ◌∙◌}
use Rattle.files.specs.Diagram.{Diagram}
use Rattle.files.specs.RecordFile.{read_record}
use Rattle.files.specs.Refusal.{refusal_of}
use Rattle.diagrams.specs.declared.StoredDiagram.{StoredDiagram}
use Rattle.diagrams.specs.View.{diagram_of}
use Rattle.diagrams.specs.Held.{Held}
use Rattle.records.specs.declared.MemoryRecord.{MemoryRecord}
use Rattle.resolving.specs.Resolves.{Resolves}
use Rattle.rules.specs.Compile.{compile}
use Rattle.rules.specs.Evaluate.{first_failing}
use Rattle.memory_rules.specs.SiteIn.{site_in}
use Rattle.memory_rules.proofs.JudgeInLaws.{evaluate-in}
use Rattle.judging.proofs.FileLaws.{file-coded, file-stands}
use Rattle.std.specs.Prelude.{Result, Ok, Err, IsErrAnd}
use Rattle.fields.specs.Refusal.{number_of}
use Rattle.fields.specs.declared.Refusal.{Refusal}
use Rattle.evaluating.specs.Evaluates.{Evaluates}

pub file-evaluated : {d : StoredDiagram} {file : List ℕ} {m : MemoryRecord} → Held d → Resolves (diagram_of d) file m → {first : ℕ} → 0 ≡ refusal_of (read_record file)
    → first ≡ first_failing (diagram_of d) (site_in (diagram_of d) m) (compile (diagram_of d)) → Evaluates (diagram_of d) file (Ok first)
file-evaluated {d} {file} {m} held is e f = record { refusal = e; first = λ r h. f ∙ evaluate-in (diagram_of d) r m (file-stands held is r h) }

pub file-refused : (d : Diagram) (file : List ℕ) (y : Refusal) (v : Result ℕ Refusal) → number_of y ≡ refusal_of (read_record file) → IsErrAnd v (λ z. z ≡ y) → Evaluates d file v
file-refused d file y (Ok n) e h = absurd h
file-refused d file y (Err z) e h = record { refusal = ap number_of h ∙ e; first = tt }

pub ruleset file_laws = (file-evaluated, file-refused, file-coded)
