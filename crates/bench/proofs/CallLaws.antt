-- A call keeps its promise where its step is right, by what it does with the bench that it got: it gives it back, it sets a place, or it
-- changes the witness.
-- Assumes nothing.
use Prim.Native.Nat.{ℕ}
use mathlib.Core.Bool.{false}
use mathlib.Core.List.{List, []}
use mathlib.Core.Option as math
use mathlib.Core.Option.{none}
use mathlib.Core.Path.{◌≡◌, ap, subst, sym}
use Rattle.std.specs.Prelude.{Option, IfSome, Result, Ok, Err, IsErrAnd}
use Rattle.fields.specs.Refusal.{answer_of, number_of}
use Rattle.fields.specs.declared.Refusal.{Refusal}
use Rattle.files.specs.Diagram.{Diagram}
use Rattle.files.specs.Refusal.{Answer, refused}
use Rattle.diagrams.specs.declared.ReadDiagram.{ReadDiagram}
use Rattle.steps.specs.Bench as abstract
use Rattle.steps.specs.Bench.{Call, Outcome, is_refusal}
use Rattle.steps.specs.Effect.{at_place, at_witness, effect}
use Rattle.steps.specs.Step.{Step, asking, settling}
use Rattle.bench.specs.Calls.{Does}
use Rattle.bench.specs.Parts.{ValidWitness, diagram_in}
use Rattle.bench.specs.View.{asked_in, bench_of, placed_in, reply_of, said_by, settled_in, with_witness_in}
use Rattle.bench.specs.declared.parts.Bench.{Bench}
use Rattle.bench.specs.declared.Replied.{Replied}
use Rattle.bench.specs.declared.Reply.{Reply}
use Rattle.bench.specs.declared.Reply.TheVariants.{Done, Refused}
use Rattle.bench.specs.declared.parts.Witness.{Witness}
use Rattle.bench.proofs.PartLaws.{settled_is, settled-stays, stays_all, witness-stays}

module _ (b : Bench) (c : Call) where
  pub kept : (reply : Reply) (buffer : List ℕ) → Step (bench_of b) c (record { reply = reply_of reply []; bench = bench_of b; buffer = buffer })
      → Does b c (record { bench = b; reply = reply }) buffer
  kept reply buffer s = record { step = s; stays = stays_all b c (reply_of reply []) }

  pub settles : (p : ℕ) (x : Option ReadDiagram) → effect c ≡ record { on = at_place p; lends = none }
      → Step (bench_of b) c (record { reply = abstract.done; bench = bench_of (settled_in b p x); buffer = [] })
      → Does b c (record { bench = settled_in b p x; reply = Done }) []
  settles p x q s = record { step = s; stays = settled-stays b p x c q }

  pub chooses : (reply : Reply) (w : Option Witness) (k : IfSome w (ValidWitness b.old b.new)) → effect c ≡ record { on = at_witness; lends = none }
      → is_refusal (reply_of reply []) ≡ false
      → Step (bench_of b) c (record { reply = reply_of reply []; bench = bench_of (with_witness_in b w k); buffer = [] })
      → Does b c (record { bench = with_witness_in b w k; reply = reply }) []
  chooses reply w k q r s = record { step = s; stays = witness-stays b w k c (reply_of reply []) q r }

  -- a call that asks, by what it gives
  pub asks : (a : Answer abstract.Reply) (r : Result Reply Refusal) → said_by r ≡ a → ((o : Outcome) → o ≡ asking (bench_of b) a → Step (bench_of b) c o) → Does b c (asked_in b r) []
  unfolding asking
  asks a (Ok reply) is step = kept reply [] (step _ (rw (← is)))
  asks a (Err y) is step = kept (Refused (number_of y)) [] (step _ (rw (← is)))

  -- a call that sets a place, by what it gives
  pub stores : (p : ℕ) (a : Answer (math.Option Diagram)) (r : Result (Option ReadDiagram) Refusal) → answer_of diagram_in r ≡ a
      → effect c ≡ record { on = at_place p; lends = none } → ((o : Outcome) → o ≡ settling (bench_of b) p a → Step (bench_of b) c o) → Does b c (placed_in b p r) []
  unfolding settling
  stores p a (Ok x) is q step = settles p x q (step _ (rw (← is, settled_is b p x)))
  stores p a (Err y) is q step = kept (Refused (number_of y)) [] (step _ (rw (← is)))

  pub whole-asks : (a : Answer abstract.Reply) (r : Result Reply Refusal) {x : Replied} → x ≡ asked_in b r → said_by r ≡ a
      → ((o : Outcome) → o ≡ asking (bench_of b) a → Step (bench_of b) c o) → Does b c x []
  whole-asks a r e is step = subst (λ (y : Replied). Does b c y []) (sym e) (asks a r is step)

  pub whole-kept : (r : Result Reply Refusal) {x : Replied} {buffer : List ℕ} → x ≡ asked_in b r → Does b c (asked_in b r) buffer → Does b c x buffer
  whole-kept r {buffer = buffer} e d = subst (λ (y : Replied). Does b c y buffer) (sym e) d

  pub whole-stores : (p : ℕ) (a : Answer (math.Option Diagram)) (r : Result (Option ReadDiagram) Refusal) {x : Replied} → x ≡ placed_in b p r → answer_of diagram_in r ≡ a
      → effect c ≡ record { on = at_place p; lends = none } → ((o : Outcome) → o ≡ settling (bench_of b) p a → Step (bench_of b) c o) → Does b c x []
  whole-stores p a r e is q step = subst (λ (y : Replied). Does b c y []) (sym e) (stores p a r is q step)

-- what a `?` passes on
pub passed : {T A : Type 0} (f : T → A) (r : Result T Refusal) (y : Refusal) → IsErrAnd r (λ z. z ≡ y) → answer_of f r ≡ refused (number_of y)
passed f (Ok x) y h = absurd h
passed f (Err z) y h = ap (λ (x : Refusal). refused (number_of x)) h
