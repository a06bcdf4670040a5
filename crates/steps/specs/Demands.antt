-- The three demands, of the bench's calls as 01 has them, and what 02 promises of calls besides. What is said of files, rules, predicates and differences is said by the
-- definitions that follow 01. The bench in memory and the list of calls in bytes are held to these.
-- Assumes nothing.
use Rattle.std.specs.Prelude.{◌<◌, ◌≤◌, suc, ℕ, Bool, false, true, List, [], ◌∷◌, ◌↔◌, ◌⊎◌, ◌≡◌, drop, get_or, length, take}
use Rattle.std.proofs.Math.Option.{some}
use Rattle.files.specs.Convert.{TooWide, other_edition}
use Rattle.files.specs.Diagram.{Diagram}
use Rattle.files.specs.DiagramFile.{edition_in, read_diagram}
use Rattle.files.specs.Record.{Record, object_count}
use Rattle.files.specs.RecordFile.{read_record}
use Rattle.files.specs.Refusal.{accepted, refused}
use Rattle.texts.specs.Declaration.{declarations}
use Rattle.texts.specs.Declared.{declared}
use Rattle.texts.specs.Grammar.{Belongs, Tree}
use Rattle.texts.specs.TextChecks.{text_refusal}
use Rattle.rules.specs.Compile.{compile, compiled_bytes}
use Rattle.rules.specs.Heads.{all_headed}
use Rattle.rules.specs.LinkRules.{rule5, rule6, rule7, rule8}
use Rattle.rules.specs.Site.{site_of}
use Rattle.rules.specs.TypeRules.{rule1, rule2}
use Rattle.rules.specs.ValueRules.{rule3, rule4}
use Rattle.rules.specs.WholeRule.{rule9}
use Rattle.smallest_records.specs.Difference.{Gap}
use Rattle.steps.specs.Bench.{Bench, Call, Compare, Compile, Convert, Evaluate, HandOut, Judge, Load, LoadText, Outcome, difference, done, first_false, is_refusal, no_difference, place_of, records, refusal, rule, written}
use Rattle.steps.specs.Effect.{changes, lent, witness}
use Rattle.steps.specs.HandedOut.{HandedOut}
use Rattle.steps.specs.Row.{Event, KeepsWitness, Reached, Row}
use Rattle.steps.specs.Step.{Step}

-- ---- demand 1: every call gets a defined reply, and a refusal changes nothing

pub record Defined (b : Bench) (c : Call) (o : Outcome) : Type 0 where
  -- whatever else the call may give, the reply is this one
  pub settled : (p : Outcome) → Step b c p → o.reply ≡ p.reply
  -- refused, the bench and every byte of the buffer are as they came
  pub bench : is_refusal o.reply ≡ true → o.bench ≡ b
  pub buffer : is_refusal o.reply ≡ true → o.buffer ≡ lent c

abbrev pub DemandOne : Type 0
DemandOne = (b : Bench) (c : Call) (o : Outcome) → Step b c o → Defined b c o

-- ---- demand 2: files, judgements and predicates are those of 01, texts those of 02 1/12

-- the nine rules in order: at k stands rule k + 1
abbrev pub rules : Diagram → Record → List Bool
rules d r =
    let x = site_of r in rule1 d x ∷ rule2 d x ∷ rule3 d x ∷ rule4 d x ∷ rule5 d x ∷ rule6 d x ∷ rule7 d x ∷ rule8 d x ∷ rule9 d x ∷ []

-- "0, or the lowest rule broken"
pub record LowestBroken (d : Diagram) (r : Record) (n : ℕ) : Type 0 where
  pub none : n ≡ 0 → (k : ℕ) → get_or (rules d r) k true ≡ true
  pub broken : (k : ℕ) → n ≡ suc k → get_or (rules d r) k true ≡ false
  pub lowest : (j k : ℕ) → n ≡ suc k → j < k → get_or (rules d r) j true ≡ true

-- 02: "23 for text outside the grammar", else n is what the checks give in their order
abbrev pub TextRefused : List ℕ → ℕ → Type 0
TextRefused text n = ((n ≡ 23) × ((t : Tree) → Belongs text t → ⊥)) ⊎ ((t : Tree) × Belongs text t × (text_refusal t ≡ n) × (0 < n))

-- of place p, which is 0 or 1
pub record Exact (b : Bench) (p : ℕ) : Type 0 where
  -- a diagram file is accepted exactly when it follows 01, and then the place holds its diagram
  pub accepts : (file : List ℕ) (o : Outcome) → Step b (Load p file) o → (o.reply ≡ done) ↔ ((d : Diagram) × (read_diagram file ≡ accepted d))
  pub stores : (file : List ℕ) (o : Outcome) → Step b (Load p file) o → (d : Diagram) → read_diagram file ≡ accepted d → place_of p o.bench ≡ some d
  -- 02: "Text is accepted exactly when it belongs to this grammar and none of the checks below refuses it", and then the place holds
  -- "the diagram it declares"; else it is refused by the number of the check
  pub accepts-text : (text : List ℕ) (o : Outcome) → Step b (LoadText p text) o → (o.reply ≡ done) ↔ ((t : Tree) × Belongs text t × (text_refusal t ≡ 0))
  pub stores-text : (text : List ℕ) (o : Outcome) → Step b (LoadText p text) o → (t : Tree) → Belongs text t → text_refusal t ≡ 0
      → place_of p o.bench ≡ some (declared (declarations t))
  pub refuses-text : (text : List ℕ) (o : Outcome) → Step b (LoadText p text) o → (n : ℕ) → (o.reply ≡ refusal n) ↔ TextRefused text n
  -- under a diagram d in the place, judge replies n exactly when the record file follows 01 and n is 0 or the lowest rule broken
  pub judges : (d : Diagram) → place_of p b ≡ some d → (file : List ℕ) (o : Outcome) → Step b (Judge p file) o → (n : ℕ)
      → (o.reply ≡ rule n) ↔ ((x : Record) × (read_record file ≡ accepted x) × LowestBroken d x n)
  -- compile gives the predicates, and they hold of a record, all of them, exactly when rules 6 to 9 do
  pub compiles : (d : Diagram) → place_of p b ≡ some d → (o : Outcome) → Step b (Compile p) o → o.reply ≡ records (length (compile d)) (compiled_bytes d)
  pub evaluates : (d : Diagram) → place_of p b ≡ some d → (file : List ℕ) (o : Outcome) → Step b (Evaluate p file) o
      → (x : Record) → read_record file ≡ accepted x
      → (o.reply ≡ first_false (length (compile d)))
      ↔ ((rule6 d (site_of x) ≡ true) × (rule7 d (site_of x) ≡ true) × (rule8 d (site_of x) ≡ true) × (rule9 d (site_of x) ≡ true))

abbrev pub DemandTwo : Type 0
DemandTwo = (b : Bench) → Reached b → (p : ℕ) → p ≤ 1 → Exact b p

-- ---- demand 3: no record is overlooked

-- some record of n objects is one that S looks for, and none has fewer
pub record Smallest (S : List ℕ → Record → Type 0) (n : ℕ) : Type 0 where
  pub some-has : (file : List ℕ) × (x : Record) × S file x × (object_count x ≡ n)
  pub none-fewer : (file : List ℕ) (x : Record) → S file x → n ≤ object_count x

pub record NoneOverlooked (old new : Diagram) (bound : ℕ) (o : Outcome) : Type 0 where
  -- "no difference" exactly when no site record of at most `bound` objects is legal for old and illegal for new
  pub no-difference : (o.reply ≡ no_difference) ↔ ((file : List ℕ) (x : Record) → Gap old new file x → object_count x ≤ bound → ⊥)
  -- otherwise "difference", with the least object count
  pub otherwise : (o.reply ≡ no_difference → ⊥) → (n : ℕ) × (o.reply ≡ difference n)
  pub least : (n : ℕ) → o.reply ≡ difference n → (n ≤ bound) × Smallest (Gap old new) n
  -- and whatever is handed out after it, behind calls none of which drops or stores a witness, is such a record of n objects
  pub handed-out : (n : ℕ) → o.reply ≡ difference n → (es : List Event) (c : Bench) → Row o.bench es c → KeepsWitness es
      → (buffer : List ℕ) (p : Outcome) → Step c (HandOut buffer) p → HandedOut (Gap old new) n buffer p

-- "Old and new are the diagrams in places 0 and 1 of the bench that compare gets."
abbrev pub DemandThree : Type 0
DemandThree =
    (b : Bench) (old new : Diagram) → b.old ≡ some old → b.new ≡ some new
    → (bound : ℕ) → bound ≤ 8 → (o : Outcome) → Step b (Compare bound) o → NoneOverlooked old new bound o

-- ---- 02 4/12: "A converter writes an edition 1 file as edition 2 and the other way about"

-- refused neither by "the file's own refusals" nor by 25
abbrev pub Convertible : List ℕ → Type 0
Convertible file = ((d : Diagram) × (read_diagram file ≡ accepted d)) × (TooWide file → ⊥)

-- the first n bytes of the buffer are the file in its other edition
pub record ConvertedTo (file buffer : List ℕ) (n : ℕ) (o : Outcome) : Type 0 where
  -- "Read back, the result is the diagram that went in, limit for limit"
  pub read-back : read_diagram (take n o.buffer) ≡ read_diagram file
  pub edition : edition_in (take n o.buffer) ≡ other_edition (edition_in file)
  -- "a second conversion returns the first file's bytes", on any bench and whatever its buffer holds
  pub again : (c : Bench) (second : List ℕ) (p : Outcome) → 4096 ≤ length second → Step c (Convert (take n o.buffer) second) p
      → (p.reply ≡ written (length file)) × (take (length file) p.buffer ≡ file)
  -- "The reply is the result's length"
  pub long : length (take n o.buffer) ≡ n
  -- "bytes behind it stay untouched"
  pub behind : drop n o.buffer ≡ drop n buffer
  pub size : length o.buffer ≡ length buffer

pub record ConverterGives (b : Bench) (file buffer : List ℕ) (o : Outcome) : Type 0 where
  pub result : (n : ℕ) → o.reply ≡ written n → ConvertedTo file buffer n o
  pub gives : ((n : ℕ) × (o.reply ≡ written n)) ↔ (Convertible file × (4096 ≤ length buffer))
  -- "25 .., after the file's own refusals; then 20 for the buffer"
  pub own : (n : ℕ) → read_diagram file ≡ refused n → o.reply ≡ refusal n
  pub too-wide : (o.reply ≡ refusal 25) ↔ TooWide file
  pub buffer-short : (o.reply ≡ refusal 20) ↔ (Convertible file × (length buffer < 4096))
  -- there is no other file
  pub cases : ((n : ℕ) × (read_diagram file ≡ refused n)) ⊎ (TooWide file ⊎ Convertible file)
  -- the bench is left as it came, so a conversion may stand between "difference" and a hand out
  pub bench : o.bench ≡ b
  pub keeps : changes (Convert file buffer) o.reply witness ≡ false

abbrev pub Converter : Type 0
Converter = (b : Bench) (file buffer : List ℕ) (o : Outcome) → Step b (Convert file buffer) o → ConverterGives b file buffer o

-- ---- 02 2/12: "Two diagrams that differ only in ↔ against no arrowhead have no difference at any bound."

-- either of the two may be old
abbrev pub SameHeads : Type 0
SameHeads =
    (b : Bench) (old new : Diagram) → b.old ≡ some old → b.new ≡ some new → all_headed old ≡ all_headed new
    → (bound : ℕ) → bound ≤ 8 → (o : Outcome) → Step b (Compare bound) o → o.reply ≡ no_difference
