-- A loop over the fields of a record file: what is known between two fields, and one law for each way on and out.
-- Assumes nothing.
use Prim.Native.Nat.{◌<◌, suc, zero, ℕ}
use native.Mathlib.Omega.{arith}
use mathlib.Core.Bool.{Bool, cond, false, not, true}
use mathlib.Core.List.{List, []}
use mathlib.Core.Path.{◌∙◌, ◌≡◌, ap, refl, sym}
use lib.Dec.{eqb}
use lib.ListN.{length}
use Rattle.std.specs.Borrow.{Bor}
use Rattle.laws.specs.Connective.{refuse}
use Rattle.files.specs.Content.{byte}
use Rattle.files.specs.Field.{Rows, cut, end, row, rows}
use Rattle.files.specs.Record.{Record, no_record, object_count}
use Rattle.files.specs.RecordFile.{read_record, record_from, record_with}
use Rattle.files.specs.Refusal.{Answer, accepted, or_refused, refusal_of, refused}
use Rattle.std.specs.Prelude.{Result, IsErrAnd}
use Rattle.fields.specs.Field.{AtFront}
use Rattle.fields.specs.Refusal.{number_of, refusal_number}
use Rattle.fields.specs.declared.Field.{Field}
use Rattle.fields.specs.declared.Refusal.{Refusal}
use Rattle.fields.specs.declared.Refusal.TheVariants.{Cut}
use Rattle.fields.proofs.RefusalLaws.{numbered, passed-number}
use Rattle.checking.specs.declared.Progress.{Progress}
use Rattle.checking.specs.Progress.{counted, end_no, field_no}
use Rattle.checking.proofs.SeenLaws.{Seen, field-refusal, keeps, seen_nothing}

-- The rest of the file decides as the whole does, behind the record read so far, of which s tells.
pub record Reading (file : List ℕ) (s : Progress) (rest : List ℕ) : Type 0 where
  pub so_far : Record
  pub seen : Seen s so_far
  pub same : refusal_of (read_record file) ≡ refusal_of (record_from s.last s.count so_far (rows rest))

pub reading-begin : (file : List ℕ) {x y : Bor (List ℕ)} → x.now ≡ [] → y.now ≡ []
    → Reading file (record { last = 0; count = 0; objects = 0; values = 0; links = 0; value = x; link = y }) file
unfolding read_record
reading-begin file p q = record { so_far = no_record; seen = seen_nothing p q; same = refl }

module _ (file : List ℕ) (s : Progress) (rest : List ℕ) (at : Reading file s rest) where
  -- ---- nothing is left

  end-refusal : (r : Record) → s.objects ≡ length r.objects → refusal_of (record_from s.last s.count r end) ≡ end_no s
  unfolding record_from end_no refusal_of refuse object_count
  end-refusal r e = ap (λ (n : ℕ). refusal_of (cond (eqb s.last 0) (refused 2) (cond (eqb n s.count) (accepted r) (refused 4)))) (sym e)
      ∙ go (eqb s.last 0) (eqb s.objects s.count)
    where
      go : (a b : Bool) → refusal_of (cond a (refused 2) (cond b (accepted r) (refused 4))) ≡ refuse a 2 (refuse (not b) 4 0)
      go true b = refl
      go false true = refl
      go false false = refl

  from : (x : Rows) → rows rest ≡ x → refusal_of (read_record file) ≡ refusal_of (record_from s.last s.count at.so_far x)
  from x h = at.same ∙ ap (λ (w : Rows). refusal_of (record_from s.last s.count at.so_far w)) h

  pub reading-end : {no : ℕ} → rows rest ≡ end → no ≡ end_no s → no ≡ refusal_of (read_record file)
  reading-end h e = e ∙ sym (from end h ∙ end-refusal at.so_far at.seen.objects)

  -- ---- the field passes the end

  pub reading-cut : {T : Type 0} (y : Refusal) (r : Result T Refusal) → (rows rest ≡ cut) × (y ≡ Cut) → IsErrAnd r (λ z. z ≡ y) → refusal_number r ≡ refusal_of (read_record file)
  unfolding record_from refusal_of
  reading-cut y r h q = passed-number r y q ∙ ap number_of h.1 ∙ sym (from cut h.0)

  -- ---- a whole field

  module _ (f : Field) (front : AtFront rest f) where
    later : Answer Record
    later = record_from f.tag (cond (eqb f.tag 0x60) (byte f.content.now 0) s.count) (record_with at.so_far f.tag f.content.now) (rows f.rest.now)

    step : (m : ℕ) → m ≡ field_no s f.tag f.content.now → refusal_of (read_record file) ≡ refusal_of (or_refused m later)
    unfolding record_from later
    step m e =
        from (row f.tag f.content.now (rows f.rest.now)) front.is
        ∙ ap (λ (n : ℕ). refusal_of (or_refused n later)) (sym (e ∙ field-refusal s at.so_far at.seen f.tag f.content.now))

    pub reading-refused : {T : Type 0} (y : Refusal) (r : Result T Refusal) → number_of y ≡ field_no s f.tag f.content.now → IsErrAnd r (λ z. z ≡ y)
        → refusal_number r ≡ refusal_of (read_record file)
    unfolding refusal_of or_refused
    reading-refused y r e q = passed-number r y q ∙ sym (step (number_of y) e ∙ go (number_of y) (numbered y) later)
      where
        go : (m : ℕ) → 0 < m → (a : Answer Record) → refusal_of (or_refused m a) ≡ m
        go zero h a = absurd (omega arith)
        go (suc m) h a = refl

    pub reading-on : {s' : Progress} → 0 ≡ field_no s f.tag f.content.now → s' ≡ counted s f.tag f.content → Reading file s' f.rest.now
    unfolding counted or_refused later
    reading-on z es =
        rw es
        (record {
          so_far = record_with at.so_far f.tag f.content.now;
          seen = keeps s at.so_far f.content f.tag at.seen (sym (z ∙ field-refusal s at.so_far at.seen f.tag f.content.now));
          same = step 0 z;
        })
