-- Each way out of hand out: no witness, a short buffer, and what the writer leaves. The bench stays as it came.
-- Assumes nothing.
use Prim.Native.Nat.{◌<◌, ◌≤◌, ℕ}
use native.Mathlib.Omega.{arith}
use mathlib.Core.List.{List}
use mathlib.Core.Option.{some}
use Rattle.std.specs.Prelude.{Option, None, Some, IfSome, IsSome, Result, Ok, Err, IsErrAnd, ok_or}
use Rattle.fields.specs.Refusal.{number_of}
use Rattle.fields.specs.declared.Refusal.{Refusal}
use Rattle.fields.specs.declared.Refusal.TheVariants.{Buffer, NoWitness}
use Rattle.diagrams.specs.declared.ReadDiagram.{ReadDiagram}
use mathlib.Core.Bool.{true}
use mathlib.Core.Path.{◌∙◌, ◌≡◌, refl, subst, sym}
use lib.ListN.{length}
use borrow.Author.Tests.{le-leb, lt-leb}
use Rattle.laws.proofs.ConnectiveLaws.{both_of}
use Rattle.files.specs.Record.{Record}
use Rattle.records.specs.Written.{Within, record_of}
use Rattle.records.proofs.WithinLaws.{within-complete}
use Rattle.writing.proofs.WritableLaws.{written-as, written-some}
use Rattle.writing.specs.Writes.{Writes, WritesWithin, writable}
use Rattle.files.specs.Refusal.{in_buffer}
use Rattle.steps.specs.Bench.{HandOut}
use Rattle.steps.specs.Step.{handed_out, witnessing, writing}
use Rattle.bench.specs.Calls.{Does}
use Rattle.bench.specs.Parts.{ValidWitness, diagram_by, names_of}
use Rattle.bench.specs.View.{asked_in, bench_of, place_in}
use Rattle.bench.specs.declared.parts.Bench.{Bench}
use Rattle.bench.specs.declared.parts.Witness.{Witness}
use Rattle.bench.specs.declared.Reply.{Reply}
use Rattle.bench.specs.declared.Reply.TheVariants.{Refused, Written}
use Rattle.bench.proofs.CallLaws.{kept}

-- the bench has a witness w
module _ (b : Bench) where
  -- what is asked for is not there
  none-asked : (x : Option Witness) {y : Refusal} → ◌≡◌ {A = Result Witness Refusal} (Err y) (ok_or x NoWitness) → (x ≡ None) × (y ≡ NoWitness)
  none-asked None e = (refl, cc)
  none-asked (Some w) e = absurd cc

  pub hand-none : (s : List ℕ) (r : Result Reply Refusal) {y : Refusal} → IsErrAnd r (λ z. z ≡ y) → ◌≡◌ {A = Result Witness Refusal} (Err y) (ok_or b.witness NoWitness)
      → Does b (HandOut s) (asked_in b r) s
  unfolding writing handed_out witnessing bench_of
  hand-none s (Ok x) h e = absurd h
  hand-none s (Err z) h e =
      let q = none-asked b.witness e in
      rw (h ∙ q.1) (kept b (HandOut s) (Refused (number_of NoWitness)) s (rw q.0))

  module _ (w : Witness) (e : b.witness ≡ Some w) where
    -- by the names of the diagram in its place
    abbrev named : Record
    named = record_of (names_of (place_in b w.place)) w.found

    one-witness : (bench_of b).witness ≡ some named
    unfolding bench_of
    one-witness = rw e

    valid : ValidWitness b.old b.new w
    valid = subst (λ (x : Option Witness). IfSome x (ValidWitness b.old b.new)) e b.fits

    pub hand-short : (s : List ℕ) → length s < 60000 → Does b (HandOut s) (record { bench = b; reply = Refused (number_of Buffer) }) s
    unfolding writing handed_out witnessing in_buffer
    hand-short s l = kept b (HandOut s) (Refused (number_of Buffer)) s (rw (one-witness, lt-leb 60000 (length s) l))

    module _ {x : Option ReadDiagram} (d : ReadDiagram) (is : x ≡ place_in b w.place) (full : x ≡ Some d) where
      here : place_in b w.place ≡ Some d
      here = sym is ∙ full

      -- it has an index for everything in the witness
      within : Within (diagram_by d) w.found
      within = subst (λ (y : Option ReadDiagram). Within (names_of y) w.found) here valid.within

      -- the file fits
      pub hand-written : (s t : List ℕ) (r : Option ℕ) → 60000 ≤ length s → WritesWithin (diagram_by d) w.found s r t → IsSome r
      unfolding writable
      hand-written s t r l p =
          let h : writable (diagram_by d) w.found (length s) ≡ true = both_of _ _ (le-leb 59300 (length s) (omega arith)) (within-complete _ _ within) in
          let q = written-some (diagram_by d) w.found (length s) h s t refl p in
          subst (λ (x : Option ℕ). IsSome x) (sym q.1) refl

      -- what the writer leaves
      wrote : {s t : List ℕ} {r : Option ℕ} {n : ℕ} → r ≡ Some n → WritesWithin (diagram_by d) w.found s r t → Writes named s n t
      wrote {s} {t} {n = n} e p =
          subst (λ (y : Option ReadDiagram). Writes (record_of (names_of y) w.found) s n t) (sym here)
          (written-as (diagram_by d) w.found s t e p)

      pub hand-done : (s : List ℕ) {r : Option ℕ} {n : ℕ} {t : List ℕ} → 60000 ≤ length s → r ≡ Some n → WritesWithin (diagram_by d) w.found s r t
          → Does b (HandOut s) (record { bench = b; reply = Written n }) t
      unfolding writing handed_out witnessing in_buffer
      hand-done s {r} {n} {t} l e p =
          let q = wrote e p in kept b (HandOut s) (Written n) t (rw (one-witness, le-leb 60000 (length s) l, q.length-is, q.bytes))
