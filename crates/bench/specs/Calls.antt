-- What a call on the bench in memory promises: what 01 says of it (`Step`), and what stays of the bench byte for byte.
-- Assumes nothing.
use Rattle.std.specs.Prelude.{◌<◌, ◌≤◌, ℕ, false, true, List, [], ◌≡◌, replicate, Option, None, Some, IfSome, Result, Ok, Err}
use Rattle.fields.specs.Refusal.{number_of}
use Rattle.fields.specs.declared.Refusal.{Refusal}
use Rattle.fields.specs.declared.Refusal.TheVariants.{Place}
use Rattle.diagrams.specs.declared.ReadDiagram.{ReadDiagram}
use Rattle.diagrams.specs.Held.{Held}
use Rattle.records.specs.declared.MemoryRecord.{MemoryRecord}
use Rattle.steps.specs.Bench as abstract
use Rattle.steps.specs.Bench.{Call, Compare, is_refusal}
use Rattle.steps.specs.Effect.{changes, new_place, old_place, witness}
use Rattle.steps.specs.Step.{Step}
use Rattle.bench.specs.Parts.{ValidWitness}
use Rattle.bench.specs.View.{bench_of, reply_of, with_witness_in}
use Rattle.bench.specs.declared.parts.Bench.{Bench}
use Rattle.bench.specs.declared.Listed.{Listed}
use Rattle.bench.specs.declared.Replied.{Replied}
use Rattle.bench.specs.declared.Reply.{Reply}
use Rattle.bench.specs.declared.Reply.TheVariants.{Difference, NoDifference, Refused}
use Rattle.bench.specs.declared.parts.Witness.{Witness}

-- ---- what holds of every bench, part by part, as its parts carry it: "A bench is the fresh one or one that a call returned."

-- a place holds a diagram that was read, or is empty
abbrev pub ValidPlace : Option ReadDiagram → Type 0
ValidPlace x = IfSome x (λ d. Held d.stored)

pub record Valid (b : Bench) : Type 0 where
  pub old : ValidPlace b.old
  pub new : ValidPlace b.new
  pub witness : IfSome b.witness (ValidWitness b.old b.new)

-- ---- a bench has the places 0 and 1

abbrev pub Placed : ℕ → Result Unit Refusal → Type 0
Placed p (Ok _) = p ≤ 1
Placed p (Err r) = (1 < p) × (r ≡ Place)

-- ---- what stays: each part that the call does not change, and all where it is refused

pub record Stays (b : Bench) (c : Call) (reply : abstract.Reply) (e : Bench) : Type 0 where
  pub refused : is_refusal reply ≡ true → e ≡ b
  pub old : changes c reply old_place ≡ false → e.old ≡ b.old
  pub new : changes c reply new_place ≡ false → e.new ≡ b.new
  pub witness : changes c reply witness ≡ false → e.witness ≡ b.witness

-- ---- the promise

pub record Does (b : Bench) (c : Call) (r : Replied) (buffer : List ℕ) : Type 0 where
  pub step : Step (bench_of b) c (record { reply = reply_of r.reply []; bench = bench_of r.bench; buffer = buffer })
  pub stays : Stays b c (reply_of r.reply []) r.bench

-- the same for compile: its list is all zero where it is refused
pub record DoesWith (b : Bench) (c : Call) (r : Listed) : Type 0 where
  pub step : Step (bench_of b) c (record { reply = reply_of r.reply r.list; bench = bench_of r.bench; buffer = [] })
  pub stays : Stays b c (reply_of r.reply r.list) r.bench
  pub zero : is_refusal (reply_of r.reply r.list) ≡ true → r.list ≡ replicate 448 0

-- compare: what was found is the witness, with the reply that says so; or the refusal
abbrev pub witness_by : Option MemoryRecord → Option Witness
witness_by (Some m) = Some (record { place = 0; found = m })
witness_by None = None

abbrev pub told_by : Option MemoryRecord → Reply
told_by (Some m) = Difference m.count
told_by None = NoDifference

abbrev pub Chose : Bench → ℕ → Result (Option MemoryRecord) Refusal → Type 0
Chose b bound (Ok found) =
    (k : IfSome (witness_by found) (ValidWitness b.old b.new)) × Does b (Compare bound) (record { bench = with_witness_in b (witness_by found) k; reply = told_by found }) []
Chose b bound (Err r) = Does b (Compare bound) (record { bench = b; reply = Refused (number_of r) }) []
