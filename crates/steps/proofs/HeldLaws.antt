-- Each diagram in a place of a bench that is reached from the fresh one was read from a file or a text, so it is well formed.
-- Assumes nothing.
use Prim.Native.Nat.{ℕ}
use mathlib.Core.Bool.{Bool, cond, false, true}
use mathlib.Core.List.{List, [], ◌∷◌}
use mathlib.Core.Option.{Option, none, some}
use mathlib.Core.Path.{◌≡◌, refl, subst, sym}
use lib.Dec.{eqb, ltb}
use Rattle.files.specs.Convert.{converted}
use Rattle.files.specs.Diagram.{Diagram}
use Rattle.files.specs.DiagramFile.{read_diagram}
use Rattle.files.specs.Record.{Record}
use Rattle.files.specs.Refusal.{Answer, accepted, and_then, refused}
use Rattle.files.specs.WellFormedDiagram.{WfDiagram}
use Rattle.files.proofs.DiagramWellFormed.{diagram-wf}
use Rattle.texts.specs.ReadText.{read_text}
use Rattle.texts.proofs.ReadTextLaws.{text-wf}
use Rattle.steps.specs.Bench.{Bench, Call, Clear, Compare, Compile, Convert, Evaluate, HandOut, Judge, Load, LoadText, Outcome, Reply, place_of, settle, with_witness}
use Rattle.steps.specs.Row.{Event, Reached, Row}
use Rattle.steps.specs.Step.{Choosing, Step, asking, clear, compared, compiled, differs, evaluated, handed_out, in_place, judged, load, load_text, placed, settling, writing}

-- the diagram is well formed where there is one
abbrev WfPlace : Option Diagram → Type 0
WfPlace none = Unit {0}
WfPlace (some d) = WfDiagram d

record WfBench (b : Bench) : Type 0 where
  old : WfPlace b.old
  new : WfPlace b.new

-- P of what is accepted
abbrev Accepted : {A : Type 0} → (A → Type 0) → Answer A → Type 0
Accepted P (refused n) = Unit {0}
Accepted P (accepted x) = P x

in-place : {A : Type 0} (P : A → Type 0) (p : ℕ) (a : Answer A) → Accepted P a → Accepted P (in_place p a)
unfolding in_place
in-place P p a h = by (ltb 1 p)
  where
    by : (t : Bool) → Accepted P (cond t (refused 10) a)
    by true = tt
    by false = h

placed-wf : (p : ℕ) (a : Answer Diagram) → ((d : Diagram) → a ≡ accepted d → WfDiagram d) → Accepted WfPlace (placed p a)
unfolding placed and_then
placed-wf p (refused n) h = in-place WfPlace p _ tt
placed-wf p (accepted d) h = in-place WfPlace p _ (h d refl)

clear-wf : (p : ℕ) → Accepted WfPlace (clear p)
unfolding clear
clear-wf p = in-place WfPlace p (accepted none) tt

-- ---- a step

settling-wf : (b : Bench) (p : ℕ) (a : Answer (Option Diagram)) → Accepted WfPlace a → WfBench b → WfBench (settling b p a).bench
unfolding settling settle
settling-wf b p (refused n) h v = v
settling-wf b p (accepted x) h v = by (eqb p 0)
  where
    by : (t : Bool) → WfBench (cond t (record { old = x; new = b.new; witness = none }) (record { old = b.old; new = x; witness = none }))
    by true = record { old = h; new = v.new }
    by false = record { old = v.old; new = h }

asking-wf : (b : Bench) (a : Answer Reply) → WfBench b → WfBench (asking b a).bench
unfolding asking
asking-wf b (refused n) v = v
asking-wf b (accepted reply) v = v

writing-wf : (b : Bench) (buffer : List ℕ) (a : Answer (List ℕ)) → WfBench b → WfBench (writing b buffer a).bench
unfolding writing
writing-wf b buffer (refused n) v = v
writing-wf b buffer (accepted file) v = v

choosing-wf : {A : Type 0} (b : Bench) (a : Answer A) (S : A → List ℕ → Record → Type 0) (bound : ℕ) (says : Option Record → Reply) (o : Outcome)
    → Choosing b a S bound says o → WfBench b → WfBench o.bench
unfolding with_witness
choosing-wf b (refused n) S bound says o s v = subst (λ (q : Outcome). WfBench q.bench) (sym s) v
choosing-wf b (accepted x) S bound says o s v = subst (λ (q : Outcome). WfBench q.bench) (sym s.2) (record { old = v.old; new = v.new })

step-wf : (b : Bench) (c : Call) (o : Outcome) → Step b c o → WfBench b → WfBench o.bench
step-wf b (Load p file) o s v = subst (λ (q : Outcome). WfBench q.bench) (sym s) (settling-wf b p (load p file) (placed-wf p (read_diagram file) (diagram-wf file)) v)
step-wf b (Clear p) o s v = subst (λ (q : Outcome). WfBench q.bench) (sym s) (settling-wf b p (clear p) (clear-wf p) v)
step-wf b (Judge p file) o s v = subst (λ (q : Outcome). WfBench q.bench) (sym s) (asking-wf b (judged b p file) v)
step-wf b (Compile p) o s v = subst (λ (q : Outcome). WfBench q.bench) (sym s) (asking-wf b (compiled b p) v)
step-wf b (Evaluate p file) o s v = subst (λ (q : Outcome). WfBench q.bench) (sym s) (asking-wf b (evaluated b p file) v)
step-wf b (Compare bound) o s v = choosing-wf b (compared b bound) _ bound differs o s v
step-wf b (HandOut buffer) o s v = subst (λ (q : Outcome). WfBench q.bench) (sym s) (writing-wf b buffer (handed_out b.witness buffer) v)
step-wf b (LoadText p text) o s v = subst (λ (q : Outcome). WfBench q.bench) (sym s) (settling-wf b p (load_text p text) (placed-wf p (read_text text) (text-wf text)) v)
step-wf b (Convert file buffer) o s v = subst (λ (q : Outcome). WfBench q.bench) (sym s) (writing-wf b buffer (converted file buffer) v)

row-wf : (b : Bench) (es : List Event) (c : Bench) → Row b es c → WfBench b → WfBench c
row-wf b [] c r v = subst WfBench r v
row-wf b (e ∷ es) c r v = row-wf e.outcome.bench es c r.1 (step-wf b e.call e.outcome r.0 v)

pub reached-wf : (b : Bench) → Reached b → (p : ℕ) (d : Diagram) → place_of p b ≡ some d → WfDiagram d
unfolding place_of
reached-wf b r p d e = subst WfPlace e (by (eqb p 0))
  where
    v : WfBench b
    v = row-wf _ r.0 b r.1 (record { old = tt; new = tt })

    by : (t : Bool) → WfPlace (cond t b.old b.new)
    by true = v.old
    by false = v.new
