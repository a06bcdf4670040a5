-- What a call gives, from what is known of its place and its file; each by the definition of its step.
-- Assumes nothing.
use Prim.Native.Nat.{◌≤◌, ℕ}
use mathlib.Core.Bool.{Bool, cond, false, true}
use mathlib.Core.List.{List}
use mathlib.Core.Option.{Option, none, some}
use mathlib.Core.Path.{◌∙◌, ◌≡◌, ap, refl}
use lib.Dec.{eqb}
use lib.ListN.{length}
use borrow.Author.Tests.{le-ltb}
use Rattle.files.specs.Diagram.{Diagram}
use Rattle.files.specs.Record.{Record}
use Rattle.files.specs.RecordFile.{read_record}
use Rattle.files.specs.Refusal.{Answer, accepted, and_then, refused}
use Rattle.rules.specs.Compile.{compile, compiled_bytes}
use Rattle.rules.specs.Evaluate.{evaluate}
use Rattle.rules.specs.Judge.{judge}
use Rattle.steps.specs.Bench.{Bench, Outcome, done, first_false, gives, place_of, records, refusal, rule, settle}
use Rattle.steps.specs.Step.{asking, compared, compiled, diagram_at, evaluated, in_bound, in_place, judged, needed, on_record, placed, settling}

-- equal outcomes have one reply
pub replied : {o p : Outcome} → o ≡ p → o.reply ≡ p.reply
replied e = ap (λ (q : Outcome). q.reply) e

pub place-settled : (p : ℕ) (x : Option Diagram) (b : Bench) → place_of p (settle p x b) ≡ x
unfolding place_of settle
place-settled p x b = go (eqb p 0)
  where
    put : Bool → Bench
    put t = cond t (record { old = x; new = b.new; witness = none }) (record { old = b.old; new = x; witness = none })

    go : (t : Bool) → cond t (put t).old (put t).new ≡ x
    go true = refl
    go false = refl

module _ (b : Bench) (p : ℕ) (h : p ≤ 1) where
  -- load, by what reading the file or the text gives
  pub placed-accepted : (a : Answer Diagram) (d : Diagram) → a ≡ accepted d → settling b p (placed p a) ≡ gives done (settle p (some d) b)
  unfolding settling placed in_place and_then
  placed-accepted a d e = rw (le-ltb 1 p h, e)

  pub placed-refused : (a : Answer Diagram) (n : ℕ) → a ≡ refused n → settling b p (placed p a) ≡ gives (refusal n) b
  unfolding settling placed in_place and_then
  placed-refused a n e = rw (le-ltb 1 p h, e)

  module _ (d : Diagram) (is : place_of p b ≡ some d) where
    pub judge-accepted : (file : List ℕ) (r : Record) → read_record file ≡ accepted r → asking b (judged b p file) ≡ gives (rule (judge d r)) b
    unfolding asking on_record diagram_at in_place needed and_then
    judge-accepted file r e = rw (le-ltb 1 p h, is, e)

    pub judge-refused : (file : List ℕ) (n : ℕ) → read_record file ≡ refused n → asking b (judged b p file) ≡ gives (refusal n) b
    unfolding asking on_record diagram_at in_place needed and_then
    judge-refused file n e = rw (le-ltb 1 p h, is, e)

    pub compile-gives : asking b (compiled b p) ≡ gives (records (length (compile d)) (compiled_bytes d)) b
    unfolding asking compiled diagram_at in_place needed and_then
    compile-gives = rw (le-ltb 1 p h, is)

    pub evaluate-accepted : (file : List ℕ) (r : Record) → read_record file ≡ accepted r → asking b (evaluated b p file) ≡ gives (first_false (evaluate d r)) b
    unfolding asking on_record diagram_at in_place needed and_then
    evaluate-accepted file r e = rw (le-ltb 1 p h, is, e)

-- ---- compare

module _ (b : Bench) (bound : ℕ) where
  pub compared-full : (old new : Diagram) → b.old ≡ some old → b.new ≡ some new → compared b bound ≡ in_bound bound (accepted (old, new))
  unfolding compared diagram_at in_place needed place_of and_then
  compared-full old new eo en = rw (eo, en)

  pub compared-within : (old new : Diagram) → bound ≤ 8 → b.old ≡ some old → b.new ≡ some new → compared b bound ≡ accepted (old, new)
  unfolding in_bound
  compared-within old new h eo en = compared-full old new eo en ∙ rw (le-ltb 8 bound h)
