-- The loop over the fields of a record file: where the file is accepted, the record in memory stands for what was read so far,
-- and the rest of the file is read on from there.
-- Assumes nothing.
use Prim.Native.Nat.{◌≤◌, suc, zero, zero-le, ℕ}
use mathlib.Core.Bool.{Bool, cond, false, true}
use mathlib.Core.List.{List}
use mathlib.Core.Path.{◌∙◌, ◌≡◌, ap, refl, subst, sym}
use lib.Dec.{eqb}
use borrow.Author.Tests.{eqb-true}
use Rattle.fields.specs.Field.{AtFront}
use Rattle.fields.specs.declared.Field.{Field}
use Rattle.files.specs.Content.{byte}
use Rattle.files.specs.Diagram.{Diagram}
use Rattle.files.specs.Field.{Rows, cut, end, row, rows}
use Rattle.files.specs.Record.{Record, no_record, object_count}
use Rattle.files.specs.RecordFile.{read_record, record_from, record_refusal, record_with}
use Rattle.files.specs.Refusal.{accepted, or_refused, refused}
use Rattle.files.proofs.AnswerLaws.{accepted-is, refused-not}
use Rattle.records.specs.declared.MemoryRecord.{MemoryRecord}
use Rattle.resolving.specs.Resolves.{Resolves}
use Rattle.resolving.specs.Stored.{StandsSoFar, Takes}
use Rattle.resolving.proofs.StoreLaws.{nothing-stands}
use Rattle.resolving.proofs.TakeLaws.{count-few}
use Rattle.records.specs.Empty.{empty_record}

-- m stands for what was read before `rest`, and that with `rest` is r
pub record Reading (d : Diagram) (m : MemoryRecord) (rest : Rows) (r : Record) : Type 0 where
  pub last : ℕ
  pub count : ℕ
  pub sofar : Record
  pub few : count ≤ 8
  pub stands : StandsSoFar d sofar m
  pub is : record_from last count sofar rest ≡ accepted r

pub record Reads (d : Diagram) (file : List ℕ) (m : MemoryRecord) (rest : List ℕ) : Type 0 where
  pub on : (r : Record) → read_record file ≡ accepted r → Reading d m (rows rest) r

-- ---- the reader, one field on and at the end

module _ (last count : ℕ) (q r : Record) where
  abbrev count_next : ℕ → List ℕ → ℕ
  count_next t c = cond (eqb t 0x60) (byte c 0) count

  from_next : (t : ℕ) (c : List ℕ) (rest : Rows) → record_from last count q (row t c rest) ≡ accepted r
      → (record_refusal last count q t c ≡ 0) × (record_from t (count_next t c) (record_with q t c) rest ≡ accepted r)
  unfolding record_from or_refused
  from_next t c rest h = go (record_refusal last count q t c) refl h
    where
      go : (n : ℕ) → record_refusal last count q t c ≡ n → or_refused n (record_from t (count_next t c) (record_with q t c) rest) ≡ accepted r
          → (record_refusal last count q t c ≡ 0) × (record_from t (count_next t c) (record_with q t c) rest ≡ accepted r)
      go zero e k = (e, k)
      go (suc n) e k = absurd (refused-not k)

  from_cut : record_from last count q cut ≡ accepted r → ⊥
  unfolding record_from
  from_cut h = refused-not h

  from_end : record_from last count q end ≡ accepted r → q ≡ r
  unfolding record_from
  from_end h = go (eqb last 0) (eqb (object_count q) count) h
    where
      go : (a b : Bool) → cond a (refused 2) (cond b (accepted q) (refused 4)) ≡ accepted r → q ≡ r
      go true b k = absurd (refused-not k)
      go false true k = accepted-is k
      go false false k = absurd (refused-not k)

  few-next : (t : ℕ) (c : List ℕ) → count ≤ 8 → record_refusal last count q t c ≡ 0 → count_next t c ≤ 8
  few-next t c few ok = go (eqb t 0x60) refl
    where
      go : (b : Bool) → eqb t 0x60 ≡ b → cond b (byte c 0) count ≤ 8
      go true e = count-few last count q c (subst (λ (x : ℕ). record_refusal last count q x c ≡ 0) (eqb-true t 0x60 e) ok)
      go false e = few

-- ---- the loop, with the facts as the code has them

module _ {d : Diagram} {file : List ℕ} where
  pub reads-begin : {m : MemoryRecord} → m ≡ empty_record → Reads d file m file
  unfolding read_record
  reads-begin e =
      subst (λ (m : MemoryRecord). Reads d file m file) (sym e)
      (record { on = λ r h. record { last = 0; count = 0; sofar = no_record; few = zero-le; stands = nothing-stands d; is = h } })

  module _ {m : MemoryRecord} {s : List ℕ} (at : Reads d file m s) where
    pub reads-next : (f : Field) {n : MemoryRecord} → AtFront s f → Takes d f.tag f.content.now m n → Reads d file n f.rest.now
    reads-next f front takes = record {
      on = λ r a.
          let g = at.on r a in
          let w = from_next g.last g.count g.sofar r f.tag f.content.now (rows f.rest.now) (ap (record_from g.last g.count g.sofar) (sym front.is) ∙ g.is) in
          record {
            last = f.tag;
            count = count_next g.last g.count g.sofar r f.tag f.content.now;
            sofar = record_with g.sofar f.tag f.content.now;
            few = few-next g.last g.count g.sofar r f.tag f.content.now g.few w.0;
            stands = takes.more g.last g.count g.sofar g.few g.stands w.0;
            is = w.1;
          };
    }

    pub reads-cut : rows s ≡ cut → Resolves d file m
    reads-cut q = record { count = λ r a. absurd (never r a); stands = λ r a. absurd (never r a) }
      where
        never : (r : Record) → read_record file ≡ accepted r → ⊥
        never r a =
            let g = at.on r a in
            from_cut g.last g.count g.sofar r (ap (record_from g.last g.count g.sofar) (sym q) ∙ g.is)

    pub reads_end : rows s ≡ end → Resolves d file m
    reads_end q = record { count = λ r a. (whole r a).count; stands = λ r a. (whole r a).stands }
      where
        whole : (r : Record) → read_record file ≡ accepted r → StandsSoFar d r m
        whole r a =
            let g = at.on r a in
            subst (λ (q : Record). StandsSoFar d q m)
            (from_end g.last g.count g.sofar r (ap (record_from g.last g.count g.sofar) (sym q) ∙ g.is)) g.stands
