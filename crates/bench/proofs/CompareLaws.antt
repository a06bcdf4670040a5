-- Each way out of compare: a bound above 8, an empty place, "difference" with the witness stored, "no difference" with none left.
-- The places stay, so the witness found is one by the old diagram's names.
-- Assumes nothing.
use Prim.Native.Nat.{◌<◌, ◌≤◌, ℕ}
use native.Mathlib.Omega.{arith}
use mathlib.Core.List.{[]}
use mathlib.Core.Option as math
use mathlib.Core.Path.{◌≡◌, refl, subst, sym}
use borrow.Author.Tests.{le-ltb, lt-ltb}
use Rattle.std.specs.Prelude.{Option, None, Some, IfSome, IsSome, Result, Ok, Err, IsErrAnd}
use Rattle.fields.specs.Refusal.{number_of}
use Rattle.fields.specs.declared.Refusal.{Refusal}
use Rattle.fields.specs.declared.Refusal.TheVariants.{Bound}
use Rattle.diagrams.specs.declared.ReadDiagram.{ReadDiagram}
use Rattle.files.specs.Diagram.{Diagram}
use Rattle.files.specs.Record.{Record}
use Rattle.files.specs.Refusal.{Answer, accepted, and_then, refused}
use Rattle.files.proofs.AnswerLaws.{accepted-is, refused-not}
use Rattle.records.specs.Written.{Within, record_of}
use Rattle.records.proofs.WrittenLaws.{written_count}
use Rattle.smallest_records.specs.Difference.{Gap}
use Rattle.smallest_records.specs.Smallest.{Chooses}
use Rattle.records.specs.declared.MemoryRecord.{MemoryRecord}
use Rattle.comparing.specs.Compared.{Compares, found_in}
use Rattle.steps.specs.Bench as abstract
use Rattle.steps.specs.Bench.{Compare, Outcome, gives, is_refusal, place_of, with_witness}
use Rattle.steps.specs.Effect.{effect}
use Rattle.steps.specs.Step.{Choosing, Step, compared, diagram_at, differs, in_bound, in_place, needed, saying}
use Rattle.bench.specs.Calls.{Chose, Does, told_by, witness_by}
use Rattle.bench.specs.Parts.{ValidWitness, diagram_in, names_of, pick}
use Rattle.bench.specs.PartsProp.{fits-prop}
use Rattle.bench.specs.View.{bench_of, with_witness_in}
use Rattle.bench.specs.declared.parts.Bench.{Bench}
use Rattle.bench.specs.declared.Reply.TheVariants.{Difference, NoDifference, Refused}
use Rattle.bench.specs.declared.parts.Witness.{Witness}
use Rattle.bench.proofs.CallLaws.{chooses, kept}
use Rattle.bench.proofs.PartLaws.{witness-is}

-- a step of compare, from what its places and its bound give
step_of : (b : abstract.Bench) (bound : ℕ) (o : Outcome) (a : Answer (Diagram × Diagram)) → compared b bound ≡ a
    → Choosing b a (λ d. Gap d.0 d.1) bound differs o → Step b (Compare bound) o
step_of b bound o a e s = subst (λ (x : Answer (Diagram × Diagram)). Choosing b x (λ d. Gap d.0 d.1) bound differs o) (sym e) s

-- ---- the ways out

module _ (b : Bench) (bound : ℕ) where
  pub compare-bound : 8 < bound → Does b (Compare bound) (record { bench = b; reply = Refused (number_of Bound) }) []
  unfolding compared in_bound
  compare-bound h = kept b (Compare bound) (Refused (number_of Bound)) [] (step_of (bench_of b) bound _ (refused 9) (rw (lt-ltb 8 bound h)) refl)

  pub compare-old : bound ≤ 8 → (y : Refusal) → refused (number_of y) ≡ diagram_at (bench_of b) 0 → Does b (Compare bound) (record { bench = b; reply = Refused (number_of y) }) []
  unfolding compared in_bound and_then
  compare-old h y k = kept b (Compare bound) (Refused (number_of y)) [] (step_of (bench_of b) bound _ (refused (number_of y)) (rw (le-ltb 8 bound h, ← k)) refl)

  pub compare-new : bound ≤ 8 → (d : Diagram) → accepted d ≡ diagram_at (bench_of b) 0 → (y : Refusal) → refused (number_of y) ≡ diagram_at (bench_of b) 1
      → Does b (Compare bound) (record { bench = b; reply = Refused (number_of y) }) []
  unfolding compared in_bound and_then
  compare-new h d k y m = kept b (Compare bound) (Refused (number_of y)) [] (step_of (bench_of b) bound _ (refused (number_of y)) (rw (le-ltb 8 bound h, ← k, ← m)) refl)

  module _ (old new : Diagram) (k : accepted old ≡ diagram_at (bench_of b) 0) (l : accepted new ≡ diagram_at (bench_of b) 1) where
    -- place 0 holds it
    at-old : accepted old ≡ needed (diagram_in b.old)
    unfolding diagram_at in_place place_of bench_of
    at-old = k

    in-old : (z : Option ReadDiagram) → accepted old ≡ needed (diagram_in z) → IsSome z × (names_of z ≡ old)
    unfolding needed
    in-old (Some d) q = (refl, sym (accepted-is q))
    in-old None q = absurd (refused-not (sym q))

    -- a step that gives what was found
    step-found : (z : math.Option Record) (o : Outcome) → bound ≤ 8
        → Chooses (Gap old new) bound z → o ≡ gives (differs z) (with_witness z (bench_of b)) → Step (bench_of b) (Compare bound) o
    unfolding compared in_bound and_then
    step-found z o h f e = step_of (bench_of b) bound o (accepted (old, new)) (rw (le-ltb 8 bound h, ← k, ← l)) (z, f, e)

    pub compare-done : (found : Option MemoryRecord) → Compares old new bound found → bound ≤ 8 → Chose b bound (Ok found)
    unfolding effect is_refusal saying pick found_in
    compare-done (Some m) c h =
        let w : Witness = record { place = 0; found = m } in
        let here = in-old b.old at-old in
        let fits : ValidWitness b.old b.new w = record { whose = omega arith; ready = here.0; within = subst (λ (z : Diagram). Within z m) (sym here.1) c.within } in (
          fits,
          chooses b (Compare bound) (Difference m.count) (Some w) fits refl refl
              (step-found (math.some (record_of old m)) _ h c.finds (rw (witness-is b (Some w) fits, here.1, written_count old m))),
        )
    compare-done None c h =
        (tt, chooses b (Compare bound) NoDifference None tt refl refl (step-found math.none _ h c.finds (rw (witness-is b None tt))))

-- what a `?` passes on
pub refused-chose : (b : Bench) (bound : ℕ) (r : Result (Option MemoryRecord) Refusal) (y : Refusal) → IsErrAnd r (λ z. z ≡ y)
    → Does b (Compare bound) (record { bench = b; reply = Refused (number_of y) }) [] → Chose b bound r
refused-chose b bound (Ok x) y h d = absurd h
refused-chose b bound (Err z) y h d = subst (λ (x : Refusal). Does b (Compare bound) (record { bench = b; reply = Refused (number_of x) }) []) (sym h) d

-- the bench with the witness that was chosen
pub chosen : (b : Bench) (bound : ℕ) (found : Option MemoryRecord) (k : IfSome (witness_by found) (ValidWitness b.old b.new)) {x : Option MemoryRecord}
    → x ≡ found → Chose b bound (Ok x) → Does b (Compare bound) (record { bench = with_witness_in b (witness_by found) k; reply = told_by found }) []
chosen b bound found k e q =
    let p : Chose b bound (Ok found) = subst (λ (y : Option MemoryRecord). Chose b bound (Ok y)) e q in
    subst (λ (j : IfSome (witness_by found) (ValidWitness b.old b.new)). Does b (Compare bound) (record { bench = with_witness_in b (witness_by found) j; reply = told_by found }) [])
    (fits-prop b.old b.new (witness_by found) p.0 k) p.1
