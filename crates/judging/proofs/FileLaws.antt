-- A record file is refused or accepted; one that is accepted, taken into memory, stands for its record.
-- Assumes nothing.
use Prim.Native.Nat.{ℕ}
use native.Mathlib.Omega.{arith}
use mathlib.Core.List.{List}
use mathlib.Core.Path.{◌≡◌, refl, sym, ap, ◌∙◌}
use Rattle.files.specs.Diagram.{Diagram}
use Rattle.files.specs.Field.{rows}
use Rattle.files.specs.Record.{Record, no_record}
use Rattle.files.specs.RecordFile.{read_record, record_from}
use Rattle.files.specs.Refusal.{Answer, accepted, refused, refusal_of}
use Rattle.files.proofs.RefusalLaws.{Within, record-refusals}
use Rattle.files.proofs.RecordWellFormed.{read-wf}
use Rattle.diagrams.specs.declared.StoredDiagram.{StoredDiagram}
use Rattle.diagrams.specs.View.{diagram_of}
use Rattle.diagrams.specs.Held.{Held}
use Rattle.records.specs.declared.MemoryRecord.{MemoryRecord}
use Rattle.resolving.specs.Resolves.{Resolves}
use Rattle.memory_rules.specs.Stands.{Stands}
use Rattle.memory_rules.specs.JudgeIn.{lowest_in}
use Rattle.memory_rules.proofs.JudgeInLaws.{judge-in}
use Rattle.tables.specs.Tables.{Coded}
use Rattle.std.specs.Prelude.{Result, Ok, Err, IsErrAnd}
use Rattle.fields.specs.Refusal.{number_of}
use Rattle.fields.specs.declared.Refusal.{Refusal}
use Rattle.judging.specs.Judges.{Judges}
use Rattle.tables.proofs.CodedLaws.{stands-coded}

-- a file without a refusal has a record
with-record : (a : Answer Record) → Within 6 a → refusal_of a ≡ 0 → (r : Record) × (a ≡ accepted r)
unfolding refusal_of
with-record (refused n) w e = absurd (let h = w.0 in omega arith)
with-record (accepted r) w e = (r, refl)

pub record-of : (file : List ℕ) → refusal_of (read_record file) ≡ 0 → (r : Record) × (read_record file ≡ accepted r)
unfolding read_record
record-of file e = with-record (record_from 0 0 no_record (rows file)) (record-refusals 0 0 no_record (rows file)) e

module _ {d : StoredDiagram} {file : List ℕ} {m : MemoryRecord} (held : Held d) (is : Resolves (diagram_of d) file m) where
  pub file-stands : (r : Record) → read_record file ≡ accepted r → Stands (diagram_of d) r m
  file-stands r e = record { wf-diagram = held.wf; wf-record = read-wf file r e; count = is.count r e; represents = is.stands r e }

  pub file-coded : 0 ≡ refusal_of (read_record file) → Coded (diagram_of d) m
  file-coded e = let w = record-of file (sym e) in stands-coded (file-stands w.0 w.1)

  pub file-judged : {rule : ℕ} → 0 ≡ refusal_of (read_record file) → rule ≡ lowest_in (diagram_of d) m → Judges (diagram_of d) file (Ok rule)
  file-judged e f = record { refusal = e; rule = λ r h. f ∙ judge-in (diagram_of d) r m (file-stands r h) }

pub file-refused : (d : Diagram) (file : List ℕ) (y : Refusal) (j : Result ℕ Refusal) → number_of y ≡ refusal_of (read_record file) → IsErrAnd j (λ z. z ≡ y) → Judges d file j
file-refused d file y (Ok n) e h = absurd h
file-refused d file y (Err z) e h = record { refusal = ap number_of h ∙ e; rule = tt }

pub ruleset file_laws = (file-coded, file-judged, file-refused)
