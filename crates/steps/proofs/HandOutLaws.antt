-- What hand out gives of a smallest record: its file at the front of the buffer, which is long enough where it has 60,000 bytes. A row
-- of calls that changes no witness keeps it, so this holds behind such a row too.
-- Assumes nothing.
use Prim.Native.Nat.{◌≤◌, ℕ}
use native.Mathlib.Omega.{arith}
use mathlib.Core.Bool.{Bool, cond, false, true, true≢false}
use mathlib.Core.List.{List}
use mathlib.Core.Option.{Option, some}
use mathlib.Core.Path.{◌∙◌, ◌≡◌, ap, refl, subst, sym}
use lib.Dec.{leb, ltb}
use lib.ListN.{drop, length, take}
use borrow.Author.Tests.{le-leb, leb-true}
use Rattle.laws.specs.Lists.{over}
use Rattle.laws.proofs.OverLaws.{drop-over, length_over, take-over}
use Rattle.files.specs.Diagram.{Diagram}
use Rattle.files.specs.Record.{Record, object_count}
use Rattle.files.specs.RecordBytes.{write_record}
use Rattle.files.specs.RecordFile.{read_record}
use Rattle.files.specs.Refusal.{Answer, accepted, in_buffer, refused}
use Rattle.smallest_records.specs.Difference.{Gap}
use Rattle.smallest_records.proofs.SmallestLaws.{chosen-fits}
use Rattle.steps.specs.Bench.{Bench, Outcome, difference, is_refusal, refusal, written}
use Rattle.steps.specs.HandedOut.{HandedOut, HandsOut}
use Rattle.steps.specs.Step.{Choosing, compared, differs, handed_out, in_bound, witnessing, writing}
use Rattle.steps.proofs.ChoiceLaws.{Chosen, chosen, differs-count, none-differs}
use Rattle.steps.proofs.EffectLaws.{row_keeps}
use Rattle.steps.proofs.StepLaws.{compared-full}

module _ (S : List ℕ → Record → Type 0) (reads : (file : List ℕ) (r : Record) → S file r → read_record file ≡ accepted r) (bound n : ℕ)
    (b : Bench) (k : Chosen S bound n b) (buffer : List ℕ) where
  abbrev w : Record
  w = k.found

  -- by whether the buffer has room
  by-room : (t : Bool) → leb 60000 (length buffer) ≡ t → (c : Bench) → HandedOut S n buffer (writing c buffer (cond t (accepted (write_record w)) (refused 20)))
  unfolding writing is_refusal
  by-room true e c = record {
    enough = λ h. refl;
    given = λ m q. (w, subst (λ (x : List ℕ). S x w) (sym (taken m (size m q))) k.fewest.is, k.count);
    untouched = λ m q. (rest m (size m q), length_over (write_record w) buffer room);
    least = fewer;
  }
    where
      room : length (write_record w) ≤ length buffer
      room = let l = chosen-fits S bound reads w k.fewest in let h = leb-true 60000 (length buffer) e in omega arith

      size : (m : ℕ) → written (length (write_record w)) ≡ written m → m ≡ length (write_record w)
      size m q = cc

      taken : (m : ℕ) → m ≡ length (write_record w) → take m (over (write_record w) buffer) ≡ write_record w
      taken m q = ap (λ (i : ℕ). take i (over (write_record w) buffer)) q ∙ take-over (write_record w) buffer

      rest : (m : ℕ) → m ≡ length (write_record w) → drop m (over (write_record w) buffer) ≡ drop m buffer
      rest m q = subst (λ (i : ℕ). drop i (over (write_record w) buffer) ≡ drop i buffer) (sym q) (drop-over (write_record w) buffer)

      fewer : (file : List ℕ) (r : Record) → S file r → n ≤ object_count r
      fewer file r s = subst (λ (i : ℕ). i ≤ object_count r) k.count (k.fewest.least file r s)
  by-room false e c = record {
    enough = λ h. absurd (true≢false (sym (le-leb 60000 (length buffer) h) ∙ e));
    given = λ m q. absurd (refusal-not m q);
    untouched = λ m q. absurd (refusal-not m q);
    least = λ file r s. subst (λ (i : ℕ). i ≤ object_count r) k.count (k.fewest.least file r s);
  }
    where
      refusal-not : (m : ℕ) → refusal 20 ≡ written m → ⊥
      refusal-not m q = let z : ◌≡◌ {A = ℕ} 0 1 = cc in absurd (omega (arith, z))

  -- of any bench that has this witness
  pub handed : (c : Bench) → c.witness ≡ b.witness → (o : Outcome) → o ≡ writing c buffer (handed_out c.witness buffer) → HandedOut S n buffer o
  unfolding handed_out witnessing in_buffer
  handed c e o s =
      let is : o ≡ writing c buffer (handed_out (some w) buffer) = s ∙ ap (λ (x : Option Record). writing c buffer (handed_out x buffer)) (e ∙ k.stored) in
      subst (HandedOut S n buffer) (sym is) (by-room (leb 60000 (length buffer)) refl c)

-- ---- after "difference"

gap-reads : (old new : Diagram) (file : List ℕ) (r : Record) → Gap old new file r → read_record file ≡ accepted r
gap-reads old new file r g = g.reads

-- what compare chose, where both places are full
pub compare-chosen : (b : Bench) (old new : Diagram) (bound n : ℕ) (o : Outcome) → b.old ≡ some old → b.new ≡ some new
    → Choosing b (compared b bound) (λ d. Gap d.0 d.1) bound differs o → o.reply ≡ difference n → Chosen (Gap old new) bound n o.bench
unfolding in_bound
compare-chosen b old new bound n o eo en s h =
    by (ltb 8 bound) (subst (λ (a : Answer (Diagram × Diagram)). Choosing b a (λ d. Gap d.0 d.1) bound differs o) (compared-full b bound old new eo en) s)
  where
    by : (t : Bool) → Choosing {A = Diagram × Diagram} b (cond t (refused 9) (accepted (old, new))) (λ d. Gap d.0 d.1) bound differs o → Chosen (Gap old new) bound n o.bench
    by true s = let q : refusal 9 ≡ difference n = sym (ap (λ (x : Outcome). x.reply) s) ∙ h in let z : ◌≡◌ {A = ℕ} 0 1 = cc in absurd (omega (arith, z))
    by false s = chosen (Gap old new) bound n b differs (difference n) (none-differs n) (differs-count n) o s.0 s.1 s.2 h

pub hands_out : HandsOut
hands_out b old new bound n o eo en s h es c r k buffer p q =
    handed (Gap old new) (gap-reads old new) bound n o.bench (compare-chosen b old new bound n o eo en s h) buffer c (row_keeps o.bench es c r k) p q
