-- One law for each way out of judge, evaluate and compile: the facts as the code has them, and the answer.
-- Assumes nothing.
use Prim.Native.Nat.{◌≤◌, ℕ}
use native.Mathlib.Omega.{arith}
use mathlib.Core.Bool.{false≢true, true}
use mathlib.Core.List.{List, []}
use mathlib.Core.Path.{◌≡◌, ap, refl, sym}
use lib.ListN.{length, replicate}
use Rattle.laws.proofs.BoundedLaws.{first_not-le}
use Rattle.std.specs.Prelude.{Ok}
use Rattle.fields.specs.Refusal.{number_of}
use Rattle.fields.specs.declared.Refusal.{Refusal}
use Rattle.fields.proofs.RefusalLaws.{numbered}
use Rattle.files.specs.Diagram.{Diagram}
use Rattle.files.specs.Record.{Record}
use Rattle.files.specs.RecordFile.{read_record}
use Rattle.files.specs.Refusal.{Answer, accepted, and_then, refusal_of, refused}
use Rattle.diagrams.specs.declared.ReadDiagram.{ReadDiagram}
use Rattle.rules.specs.Compile.{compile, entry_at}
use Rattle.rules.specs.Evaluate.{evaluate, first_failing, holds}
use Rattle.rules.specs.Site.{site_of}
use Rattle.rules.proofs.CompileLaws.{compiled-few}
use Rattle.judging.proofs.FileLaws.{record-of}
use Rattle.compiling.specs.Compiled.{Gives}
use Rattle.compiling.specs.declared.Compiled.{Compiled}
use Rattle.evaluating.specs.Evaluates.{Evaluates}
use Rattle.steps.specs.Bench as abstract
use Rattle.steps.specs.Bench.{Compile, is_refusal}
use Rattle.steps.specs.Step.{Step, asking, compiled, diagram_at, on_record}
use Rattle.bench.specs.Calls.{DoesWith}
use Rattle.bench.specs.Parts.{diagram_by}
use Rattle.bench.specs.View.{bench_of, reply_of}
use Rattle.bench.specs.declared.parts.Bench.{Bench}
use Rattle.bench.specs.declared.Reply.{Reply}
use Rattle.bench.specs.declared.Reply.TheVariants.{Records, Refused}
use Rattle.bench.proofs.PartLaws.{stays_all}

-- ---- a call with a record file, under the diagram in a place

record-refused : {A : Type 0} (a : Answer A) (y : Refusal) → number_of y ≡ refusal_of a → a ≡ refused (number_of y)
unfolding refusal_of
record-refused (refused m) y e = ap refused (sym e)
record-refused (accepted x) y e = absurd (let n = numbered y in omega (arith, e))

-- the call says `says` of the diagram and the record
module _ (b : abstract.Bench) (p : ℕ) (f : List ℕ) (says : Diagram → Record → abstract.Reply) where
  pub on-place : (n : ℕ) → refused n ≡ diagram_at b p → refused n ≡ on_record b p f says
  unfolding on_record and_then
  on-place n k = rw (← k)

  pub on-file : (d : Diagram) → accepted d ≡ diagram_at b p → (y : Refusal) → number_of y ≡ refusal_of (read_record f) → refused (number_of y) ≡ on_record b p f says
  unfolding on_record and_then
  on-file d k y e = rw (← k, record-refused (read_record f) y e)

  pub on-done : (d : Diagram) (reply : abstract.Reply) → accepted d ≡ diagram_at b p → 0 ≡ refusal_of (read_record f)
      → ((r : Record) → read_record f ≡ accepted r → reply ≡ says d r) → accepted reply ≡ on_record b p f says
  unfolding on_record and_then
  on-done d reply k e q = let r = record-of f (sym e) in rw (← k, r.1, q r.0 r.1)

evaluate-le : (d : Diagram) (r : Record) → evaluate d r ≤ length (compile d)
unfolding evaluate first_failing
evaluate-le d r = first_not-le (λ i. holds d (site_of r) (entry_at (compile d) i)) (length (compile d))

-- "at most 64", so a byte has room for it
pub first-few : (d : ReadDiagram) {f : List ℕ} {n : ℕ} → Evaluates (diagram_by d) f (Ok n) → n ≤ 64
first-few d {f} {n} q =
    let r = record-of f (sym q.refusal) in
    let is : n ≡ evaluate (diagram_by d) r.0 = q.first r.0 r.1 in
    let le : evaluate (diagram_by d) r.0 ≤ length (compile (diagram_by d)) = evaluate-le (diagram_by d) r.0 in
    let few : length (compile (diagram_by d)) ≤ 64 = compiled-few (diagram_by d) d.held.wf in
    omega (arith, is, le, few)

-- ---- compile

kept-with : (b : Bench) (p : ℕ) (reply : Reply) (list : List ℕ) → Step (bench_of b) (Compile p) (record { reply = reply_of reply list; bench = bench_of b; buffer = [] })
    → (is_refusal (reply_of reply list) ≡ true → list ≡ replicate 448 0) → DoesWith b (Compile p) (record { bench = b; reply = reply; list = list })
kept-with b p reply list s z = record { step = s; stays = stays_all b (Compile p) (reply_of reply list); zero = z }

module _ (b : Bench) (p : ℕ) where
  pub compile-place : (y : Refusal) → refused (number_of y) ≡ diagram_at (bench_of b) p → DoesWith b (Compile p) (record { bench = b; reply = Refused (number_of y); list = replicate 448 0 })
  unfolding asking compiled and_then
  compile-place y k = kept-with b p (Refused (number_of y)) (replicate 448 0) (rw (← k)) (λ e. refl)

  pub compile-done : (d : ReadDiagram) {l : Compiled} → accepted (diagram_by d) ≡ diagram_at (bench_of b) p → Gives d.stored l
      → DoesWith b (Compile p) (record { bench = b; reply = Records l.number; list = l.list })
  unfolding asking compiled and_then is_refusal
  compile-done d {l} k g = kept-with b p (Records l.number) l.list (rw (← k, g.number, g.list)) (λ e. absurd (false≢true e))

pub number-few : (d : ReadDiagram) {l : Compiled} → Gives d.stored l → l.number ≤ 64
number-few d {l} g =
    let is : l.number ≡ length (compile (diagram_by d)) = g.number in
    let few : length (compile (diagram_by d)) ≤ 64 = compiled-few (diagram_by d) d.held.wf in
    omega (arith, is, few)
