-- 01 "The bench", 02 1/12, "A second load call", and 02 4/12, "A converter": what each call gives.
-- `Step b c o`: the call c on the bench b may give o. It is an equation for each call; only compare has a free choice in it.
-- Assumes nothing.
use Rattle.std.specs.Prelude.{ℕ, cond, List, ◌≡◌, ltb, length}
use Rattle.std.proofs.Math.Option.{Option, none, some}
use Rattle.laws.specs.Lists.{over}
use Rattle.files.specs.Convert.{converted}
use Rattle.files.specs.Diagram.{Diagram}
use Rattle.files.specs.DiagramFile.{read_diagram}
use Rattle.files.specs.Record.{Record, object_count}
use Rattle.files.specs.RecordBytes.{write_record}
use Rattle.files.specs.RecordFile.{read_record}
use Rattle.files.specs.Refusal.{Answer, accepted, and_then, in_buffer, refused}
use Rattle.texts.specs.ReadText.{read_text}
use Rattle.rules.specs.Compile.{compile, compiled_bytes}
use Rattle.rules.specs.Evaluate.{evaluate}
use Rattle.rules.specs.Judge.{judge}
use Rattle.smallest_records.specs.Difference.{Gap}
use Rattle.smallest_records.specs.Smallest.{Chooses}
use Rattle.steps.specs.Bench.{Bench, Call, Clear, Compare, Compile, Convert, Evaluate, HandOut, Judge, Load, LoadText, Outcome, Reply, difference, done, first_false, gives, no_difference, place_of, records, refusal, rule, settle, with_witness, written}

-- ---- what a call gives, by what it changes; "bench and buffer stay unchanged" where it is refused

-- no part of the bench
unfoldable pub asking : Bench → Answer Reply → Outcome
asking b (refused n) = gives (refusal n) b
asking b (accepted reply) = gives reply b

-- a place, and "the witness is dropped"
unfoldable pub settling : Bench → ℕ → Answer (Option Diagram) → Outcome
settling b p (refused n) = gives (refusal n) b
settling b p (accepted x) = gives done (settle p x b)

-- the buffer: "at the front, its length returned, later bytes untouched"
unfoldable pub writing : Bench → List ℕ → Answer (List ℕ) → Outcome
writing b buffer (refused n) = record { reply = refusal n; bench = b; buffer = buffer }
writing b buffer (accepted file) = record { reply = written (length file); bench = b; buffer = over file buffer }

-- the witness: a smallest record of those that are looked for, or none; the reply says which
abbrev pub Choosing : {A : Type 0} → Bench → Answer A → (A → List ℕ → Record → Type 0) → ℕ → (Option Record → Reply) → Outcome → Type 0
Choosing b (refused n) S bound says o = o ≡ gives (refusal n) b
Choosing b (accepted x) S bound says o = (w : Option Record) × Chooses (S x) bound w × (o ≡ gives (says w) (with_witness w b))

-- ---- refusals of the calls: "Order: 9, 10, 21, then the file; 22, then 20."

-- 9: "bound above 8"
unfoldable pub in_bound : {A : Type 0} → ℕ → Answer A → Answer A
in_bound bound a = cond (ltb 8 bound) (refused 9) a

-- 10: "place above 1"
unfoldable pub in_place : {A : Type 0} → ℕ → Answer A → Answer A
in_place p a = cond (ltb 1 p) (refused 10) a

-- 21: "a place that the call needs is empty"
unfoldable pub needed : Option Diagram → Answer Diagram
needed none = refused 21
needed (some d) = accepted d

-- the diagram in place p, which the call needs
unfoldable pub diagram_at : Bench → ℕ → Answer Diagram
diagram_at b p = in_place p (needed (place_of p b))

-- 22: "no witness"
unfoldable pub witnessing : {A : Type 0} → Option Record → (Record → Answer A) → Answer A
witnessing none f = refused 22
witnessing (some w) f = f w

-- ---- the calls

-- "accepted, the place holds the diagram and the witness is dropped", of what reading a file or a text gives
unfoldable pub placed : ℕ → Answer Diagram → Answer (Option Diagram)
placed p a = in_place p (and_then a (λ d. accepted (some d)))

abbrev pub load : ℕ → List ℕ → Answer (Option Diagram)
load p file = placed p (read_diagram file)

-- 02: "order 10, 23, 24, then 4 .., 5 .., 8"
abbrev pub load_text : ℕ → List ℕ → Answer (Option Diagram)
load_text p text = placed p (read_text text)

-- "accepted, an empty place too; the place is empty and the witness is dropped"
unfoldable pub clear : ℕ → Answer (Option Diagram)
clear p = in_place p (accepted none)

-- what is said of a record file under the diagram in a place
unfoldable pub on_record : Bench → ℕ → List ℕ → (Diagram → Record → Reply) → Answer Reply
on_record b p file says = and_then (diagram_at b p) (λ d. and_then (read_record file) (λ r. accepted (says d r)))

-- "0, or the lowest rule broken"
abbrev pub judged : Bench → ℕ → List ℕ → Answer Reply
judged b p file = on_record b p file (λ d r. rule (judge d r))

-- "the records and their number, at most 64"
unfoldable pub compiled : Bench → ℕ → Answer Reply
compiled b p = and_then (diagram_at b p) (λ d. accepted (records (length (compile d)) (compiled_bytes d)))

-- "the number of compiled records if all hold on it, else the index from 0 of the first that doesn't"
abbrev pub evaluated : Bench → ℕ → List ℕ → Answer Reply
evaluated b p file = on_record b p file (λ d r. first_false (evaluate d r))

-- "Old and new are the diagrams in places 0 and 1 of the bench that compare gets."
unfoldable pub compared : Bench → ℕ → Answer (Diagram × Diagram)
compared b bound = in_bound bound (and_then (diagram_at b 0) (λ old. and_then (diagram_at b 1) (λ new. accepted (old, new))))

-- a reply for none, and one for each object count
unfoldable pub saying : Reply → (ℕ → Reply) → Option Record → Reply
saying empty tell none = empty
saying empty tell (some w) = tell (object_count w)

-- "no difference", or "difference" with the object count
abbrev pub differs : Option Record → Reply
differs = saying no_difference difference

-- "the witness as a record file"; 20: "hand-out buffer below 60,000 bytes"
unfoldable pub handed_out : Option Record → List ℕ → Answer (List ℕ)
handed_out x buffer = witnessing x (λ w. in_buffer 60000 buffer (accepted (write_record w)))

abbrev pub Step : Bench → Call → Outcome → Type 0
Step b (Load p file) o = o ≡ settling b p (load p file)
Step b (Clear p) o = o ≡ settling b p (clear p)
Step b (Judge p file) o = o ≡ asking b (judged b p file)
Step b (Compile p) o = o ≡ asking b (compiled b p)
Step b (Evaluate p file) o = o ≡ asking b (evaluated b p file)
Step b (Compare bound) o = Choosing b (compared b bound) (λ d. Gap d.0 d.1) bound differs o
Step b (HandOut buffer) o = o ≡ writing b buffer (handed_out b.witness buffer)
Step b (LoadText p text) o = o ≡ settling b p (load_text p text)
Step b (Convert file buffer) o = o ≡ writing b buffer (converted file buffer)
