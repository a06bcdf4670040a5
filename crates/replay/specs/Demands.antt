-- The demands, of the one function on bytes: what its replies say of the files that stand in the list of calls. Demand 1 is the contract
-- itself: the replies are those of a row of steps from the fresh bench (`Ran`), and a step is defined for every call. The row can be
-- taken apart at any call, and so can the replies (`RepliedAt`); demands 2 and 3, and what 02 promises
-- besides, are those of that call's step, with its reply in bytes.
-- Assumes nothing.
use Rattle.std.specs.Prelude.{◌+◌, ◌<◌, ◌≤◌, ℕ, true, List, [], ◌++◌, ◌∷◌, ◌↔◌, ◌≡◌, drop, length, take}
use Rattle.std.proofs.Math.Option.{some}
use Rattle.files.specs.Convert.{TooWide, other_edition}
use Rattle.files.specs.Diagram.{Diagram}
use Rattle.files.specs.DiagramFile.{edition_in, read_diagram}
use Rattle.files.specs.Record.{Record, object_count}
use Rattle.files.specs.RecordFile.{read_record}
use Rattle.files.specs.Refusal.{accepted, refused}
use Rattle.texts.specs.Grammar.{Belongs, Tree}
use Rattle.texts.specs.TextChecks.{text_refusal}
use Rattle.rules.specs.Compile.{compile, compiled_bytes}
use Rattle.rules.specs.Heads.{all_headed}
use Rattle.rules.specs.LinkRules.{rule6, rule7, rule8}
use Rattle.rules.specs.Site.{site_of}
use Rattle.rules.specs.WholeRule.{rule9}
use Rattle.smallest_records.specs.Difference.{Gap}
use Rattle.steps.specs.Bench.{Bench, Compare, Compile, Convert, Evaluate, HandOut, Judge, Load, LoadText, Outcome, fresh, place_of}
use Rattle.steps.specs.Demands.{Convertible, LowestBroken, Smallest, TextRefused}
use Rattle.steps.specs.Row.{Event, KeepsWitness, Reached, Row, RowAt}
use Rattle.steps.specs.Step.{Step}
use Rattle.coding.specs.ReplyBytes.{four, outcome_bytes}
use Rattle.replay.specs.Replays.{CodesRow, Replayed, row_bytes}

-- ---- what a list of calls gives

-- the first n bytes are the replies to the calls, run from the fresh bench; those behind them are untouched
pub record Ran (calls room : List ℕ) (n : ℕ) (after : List ℕ) : Type 0 where
  pub codes-row : CodesRow fresh calls room (take n after)
  pub untouched : drop n after ≡ drop n room

abbrev pub ReplayRuns : Type 0
ReplayRuns = (calls room : List ℕ) (n : ℕ) (after : List ℕ) → Replayed calls room n after → Ran calls room n after

-- one call of the list: the row at it, and its reply behind those to the calls before it
pub record RepliedAt (replies : List ℕ) (before : List Event) (e : Event) (behind : List Event) : Type 0 where
  pub last : Bench
  pub row : RowAt fresh before e behind last
  pub bytes : replies ≡ row_bytes before ++ outcome_bytes e.call e.outcome ++ row_bytes behind

abbrev pub EachReplied : Type 0
EachReplied =
    (calls room replies : List ℕ) (x : CodesRow fresh calls room replies) (before : List Event) (e : Event) (behind : List Event)
    → x.events ≡ before ++ e ∷ behind → RepliedAt replies before e behind

-- ---- demand 2, of place p, which is 0 or 1

pub record ExactBytes (b : Bench) (p : ℕ) : Type 0 where
  -- the reply to load is 0 exactly when the diagram file follows 01
  pub accepts : (file : List ℕ) (o : Outcome) → Step b (Load p file) o
      → (outcome_bytes (Load p file) o ≡ 0 ∷ []) ↔ ((d : Diagram) × (read_diagram file ≡ accepted d))
  -- the reply to loading a text is 0 exactly when it belongs to the grammar and no check refuses it, else the number of the refusal
  pub accepts-text : (text : List ℕ) (o : Outcome) → Step b (LoadText p text) o
      → (outcome_bytes (LoadText p text) o ≡ 0 ∷ []) ↔ ((t : Tree) × Belongs text t × (text_refusal t ≡ 0))
  pub refuses-text : (text : List ℕ) (o : Outcome) → Step b (LoadText p text) o → (n : ℕ) → 0 < n
      → (outcome_bytes (LoadText p text) o ≡ n ∷ []) ↔ TextRefused text n
  -- the reply to judge is 0 and n exactly when the record file follows 01 and n is 0 or the lowest rule broken
  pub judges : (d : Diagram) → place_of p b ≡ some d → (file : List ℕ) (o : Outcome) → Step b (Judge p file) o → (n : ℕ)
      → (outcome_bytes (Judge p file) o ≡ 0 ∷ n ∷ []) ↔ ((x : Record) × (read_record file ≡ accepted x) × LowestBroken d x n)
  -- the reply to compile is 0, the number and the list; that to evaluate is 0 and this number exactly when rules 6 to 9 hold
  pub compiles : (d : Diagram) → place_of p b ≡ some d → (o : Outcome) → Step b (Compile p) o
      → outcome_bytes (Compile p) o ≡ 0 ∷ length (compile d) ∷ compiled_bytes d
  pub evaluates : (d : Diagram) → place_of p b ≡ some d → (file : List ℕ) (o : Outcome) → Step b (Evaluate p file) o
      → (x : Record) → read_record file ≡ accepted x
      → (outcome_bytes (Evaluate p file) o ≡ 0 ∷ length (compile d) ∷ [])
      ↔ ((rule6 d (site_of x) ≡ true) × (rule7 d (site_of x) ≡ true) × (rule8 d (site_of x) ≡ true) × (rule9 d (site_of x) ≡ true))

abbrev pub BytesDemandTwo : Type 0
BytesDemandTwo = (b : Bench) → Reached b → (p : ℕ) → p ≤ 1 → ExactBytes b p

-- ---- demand 3

-- the reply to a hand out into 60,000 bytes or more: 0, a length m, and at the front of the buffer, m bytes long, a record of n objects
-- that S looks for; the rest of the buffer is untouched
pub record HandedBytes (S : List ℕ → Record → Type 0) (n : ℕ) (buffer reply : List ℕ) : Type 0 where
  pub m : ℕ
  pub head : take 5 reply ≡ 0 ∷ four m
  pub given : (r : Record) × S (take m (drop 5 reply)) r × (object_count r ≡ n)
  pub untouched : drop m (drop 5 reply) ≡ drop m buffer
  pub size : length reply ≡ 5 + length buffer

pub record ComparedBytes (old new : Diagram) (bound : ℕ) (o : Outcome) : Type 0 where
  -- 0 and 0 exactly when no site record of at most `bound` objects is legal for old and illegal for new
  pub no-difference : (outcome_bytes (Compare bound) o ≡ 0 ∷ 0 ∷ []) ↔ ((file : List ℕ) (x : Record) → Gap old new file x → object_count x ≤ bound → ⊥)
  -- otherwise 0, 1 and the least object count
  pub otherwise : (outcome_bytes (Compare bound) o ≡ 0 ∷ 0 ∷ [] → ⊥) → (n : ℕ) × (outcome_bytes (Compare bound) o ≡ 0 ∷ 1 ∷ n ∷ [])
  pub least : (n : ℕ) → outcome_bytes (Compare bound) o ≡ 0 ∷ 1 ∷ n ∷ [] → (n ≤ bound) × Smallest (Gap old new) n
  -- and what is handed out after it, behind calls none of which drops or stores a witness, is such a record of n objects
  pub handed-out : (n : ℕ) → outcome_bytes (Compare bound) o ≡ 0 ∷ 1 ∷ n ∷ [] → (es : List Event) (c : Bench) → Row o.bench es c → KeepsWitness es
      → (buffer : List ℕ) → 60000 ≤ length buffer → (p : Outcome) → Step c (HandOut buffer) p → HandedBytes (Gap old new) n buffer (outcome_bytes (HandOut buffer) p)

abbrev pub BytesDemandThree : Type 0
BytesDemandThree =
    (b : Bench) (old new : Diagram) → b.old ≡ some old → b.new ≡ some new
    → (bound : ℕ) → bound ≤ 8 → (o : Outcome) → Step b (Compare bound) o → ComparedBytes old new bound o

-- ---- 02 4/12: "A converter writes an edition 1 file as edition 2 and the other way about"

-- the reply to a conversion: 0, a length m, and at the front of the buffer, m bytes long, the file in its other edition; "bytes behind it
-- stay untouched"
pub record GivenBytes (file buffer reply : List ℕ) : Type 0 where
  pub m : ℕ
  pub head : take 5 reply ≡ 0 ∷ four m
  pub read-back : read_diagram (take m (drop 5 reply)) ≡ read_diagram file
  pub edition : edition_in (take m (drop 5 reply)) ≡ other_edition (edition_in file)
  pub long : length (take m (drop 5 reply)) ≡ m
  pub untouched : drop m (drop 5 reply) ≡ drop m buffer
  pub size : length reply ≡ 5 + length buffer
  -- "a second conversion returns the first file's bytes"
  pub again : (c : Bench) (second : List ℕ) (p : Outcome) → 4096 ≤ length second → Step c (Convert (take m (drop 5 reply)) second) p
      → (take 5 (outcome_bytes (Convert (take m (drop 5 reply)) second) p) ≡ 0 ∷ four (length file))
      × (take (length file) (drop 5 (outcome_bytes (Convert (take m (drop 5 reply)) second) p)) ≡ file)

-- a refused one: its number, the length 0, and the buffer as it came
abbrev pub refused_bytes : ℕ → List ℕ → List ℕ
refused_bytes n buffer = n ∷ (four 0 ++ buffer)

-- a file is one that the reader refuses, one that 25 does, or convertible (`ConverterGives.cases` of the steps)
pub record ConvertedBytes (file buffer reply : List ℕ) : Type 0 where
  pub own : (n : ℕ) → read_diagram file ≡ refused n → reply ≡ refused_bytes n buffer
  pub too-wide : TooWide file → reply ≡ refused_bytes 25 buffer
  pub short : Convertible file → length buffer < 4096 → reply ≡ refused_bytes 20 buffer
  pub gives : Convertible file → 4096 ≤ length buffer → GivenBytes file buffer reply

abbrev pub BytesConverter : Type 0
BytesConverter = (b : Bench) (file buffer : List ℕ) (o : Outcome) → Step b (Convert file buffer) o → ConvertedBytes file buffer (outcome_bytes (Convert file buffer) o)

-- ---- 02 2/12: "Two diagrams that differ only in ↔ against no arrowhead have no difference at any bound."

abbrev pub BytesSameHeads : Type 0
BytesSameHeads =
    (b : Bench) (old new : Diagram) → b.old ≡ some old → b.new ≡ some new → all_headed old ≡ all_headed new
    → (bound : ℕ) → bound ≤ 8 → (o : Outcome) → Step b (Compare bound) o → outcome_bytes (Compare bound) o ≡ 0 ∷ 0 ∷ []
