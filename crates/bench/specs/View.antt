-- The bench in memory: the two ways to change it, what it stands for, and what a call gives.
-- Assumes nothing.
use Rattle.std.specs.Prelude.{ℕ, cond, List, [], eqb, Option, IfSome, Result, Ok, Err}
use Rattle.files.specs.Refusal.{Answer}
use Rattle.fields.specs.Refusal.{answer_of, number_of}
use Rattle.fields.specs.declared.Refusal.{Refusal}
use Rattle.diagrams.specs.declared.ReadDiagram.{ReadDiagram}
use Rattle.steps.specs.Bench as abstract
use Rattle.bench.specs.Parts.{ValidWitness, diagram_in, no_place, no_witness, pick, witness_in}
use Rattle.bench.specs.declared.parts.Bench.{Bench}
use Rattle.bench.specs.declared.CompileReply.{CompileReply}
use Rattle.bench.specs.declared.Listed.{Listed}
use Rattle.bench.specs.declared.Replied.{Replied}
use Rattle.bench.specs.declared.Reply.{Reply}
use Rattle.bench.specs.declared.Reply.TheVariants.{Done, Rule, Records, FirstFalse, NoDifference, Difference, Written, Refused}
use Rattle.bench.specs.declared.parts.Witness.{Witness}

-- ---- parts

abbrev pub fresh_in : Bench
fresh_in = record { old = no_place; new = no_place; witness = no_witness; fits = tt }

abbrev pub place_in : Bench → ℕ → Option ReadDiagram
place_in b p = pick p b.old b.new

-- ---- changes

-- place p is x, and the witness is dropped
unfoldable pub settled_in : Bench → ℕ → Option ReadDiagram → Bench
settled_in b p x =
    cond (eqb p 0)
    (record { old = x; new = b.new; witness = no_witness; fits = tt })
    (record { old = b.old; new = x; witness = no_witness; fits = tt })

abbrev pub with_witness_in : (b : Bench) (w : Option Witness) → IfSome w (ValidWitness b.old b.new) → Bench
with_witness_in b w k = record { old = b.old; new = b.new; witness = w; fits = k }

-- ---- what it stands for

unfoldable pub bench_of : Bench → abstract.Bench
bench_of b = record { old = diagram_in b.old; new = diagram_in b.new; witness = witness_in b.old b.new b.witness }

-- "the promises use a definition that gives this paper's number and values for each of its cases"; compile's list stands beside it
abbrev pub reply_of : Reply → List ℕ → abstract.Reply
reply_of Done list = abstract.done
reply_of (Rule n) list = abstract.rule n
reply_of (Records n) list = abstract.records n list
reply_of (FirstFalse n) list = abstract.first_false n
reply_of NoDifference list = abstract.no_difference
reply_of (Difference n) list = abstract.difference n
reply_of (Written n) list = abstract.written n
reply_of (Refused n) list = abstract.refusal n

-- ---- what a call gives

-- the reply, or its refusal
abbrev pub reply_by : Result Reply Refusal → Reply
reply_by (Ok reply) = reply
reply_by (Err r) = Refused (number_of r)

-- as 01 has it
abbrev pub said_by : Result Reply Refusal → Answer abstract.Reply
said_by r = answer_of (λ reply. reply_of reply []) r

-- the bench that is left, and the reply
abbrev pub left_by : Bench → Reply → Replied
left_by b reply = record { bench = b; reply = reply }

-- the same for compile
abbrev pub listed_by : Bench → CompileReply → Listed
listed_by b r = record { bench = b; reply = r.reply; list = r.list }

-- of a call that changes nothing: the bench as it came
abbrev pub asked_in : Bench → Result Reply Refusal → Replied
asked_in b r = record { bench = b; reply = reply_by r }

-- of a call that sets place p
abbrev pub placed_in : Bench → ℕ → Result (Option ReadDiagram) Refusal → Replied
placed_in b p (Ok x) = record { bench = settled_in b p x; reply = Done }
placed_in b p (Err r) = record { bench = b; reply = Refused (number_of r) }
