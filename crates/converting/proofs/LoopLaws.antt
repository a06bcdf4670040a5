-- The loop over the fields of an accepted file: what was put, and the fields of the rest in the other edition, are the whole.
-- Assumes nothing.
use Prim.Native.Nat.{◌+◌, ◌-◌, ◌≤◌, ℕ}
use native.Mathlib.Omega.{arith}
use mathlib.Core.List.{List, [], ◌++◌, append-nil, append_assoc}
use mathlib.Core.Path.{◌∙◌, ◌≡◌, ap, refl, subst, sym}
use lib.ListN.{drop, length, length-append, take}
use borrow.Rule.Slice.PartMut.{put_mid}
use Rattle.files.specs.EditionFields.{in_edition, rows_in}
use Rattle.files.specs.Field.{Rows, bytes_of, cut, end, field, row, rows}
use Rattle.files.proofs.SizeLaws.{field-length}
use Rattle.fields.specs.Field.{AtFront}
use Rattle.fields.specs.declared.Field.{Field}
use Rattle.field_writers.specs.Put.{Put}
use Rattle.field_writers.proofs.PutLaws.{put-long, put-nothing, put_as, put_next}
use Rattle.converting.specs.Fitting.{AllFit, Fits}

-- `rest` is not read yet, and `now` is the buffer, whose first `at` bytes were put
pub record Going (e e' : ℕ) (whole old now rest : List ℕ) (at : ℕ) : Type 0 where
  pub written : List ℕ
  pub put : Put written old at now
  pub is : written ++ bytes_of (rows_in e e' (rows rest)) ≡ whole
  pub fit : AllFit e e' (rows rest)
  pub long : length now ≡ length old

pub begins : (e e' : ℕ) (file old : List ℕ) → AllFit e e' (rows file) → Going e e' (bytes_of (rows_in e e' (rows file))) old old file 0
begins e e' file old f = record { written = []; put = put-nothing old; is = refl; fit = f; long = refl }

module _ {e e' at : ℕ} {whole old now s : List ℕ} (g : Going e e' whole old now s at) where
  module _ (f : Field) (front : AtFront s f) where
    abbrev content : List ℕ
    content = in_edition e e' f.tag f.content.now

    abbrev behind : List ℕ
    behind = bytes_of (rows_in e e' (rows f.rest.now))

    parts : AllFit e e' (row f.tag f.content.now (rows f.rest.now))
    parts = subst (AllFit e e') front.is g.fit

    pub front-fits : Fits e e' f.tag f.content.now
    front-fits = parts.0

    front-bytes : bytes_of (rows_in e e' (rows s)) ≡ field f.tag content ++ behind
    unfolding bytes_of rows_in
    front-bytes = ap (λ (x : Rows). bytes_of (rows_in e e' x)) front.is

    split : (g.written ++ field f.tag content) ++ behind ≡ whole
    split = append_assoc g.written (field f.tag content) behind ∙ ap (λ (x : List ℕ). g.written ++ x) (sym front-bytes) ∙ g.is

    pub room : length whole + 96 ≤ length old → at + (length content + 99) ≤ length old
    room h =
        omega (
          arith,
          ap length split,
          length-append (g.written ++ field f.tag content) behind,
          length-append g.written (field f.tag content),
          field-length f.tag content,
          g.put.length-is,
        )

    pub goes_on : {n : ℕ} {part : List ℕ} → length whole + 96 ≤ length old → Put (field f.tag content) (take (length now - at) (drop at now)) n part
        → Going e e' whole old (put_mid at (length now - at) now part) f.rest.now (at + n)
    goes_on {n} h p =
        let r = room h in
        let fits : at + n ≤ length old = omega (arith, p.length-is, field-length f.tag content) in
        let q = put_next g.put p fits in
        record { written = g.written ++ field f.tag content; put = q; is = split; fit = parts.1; long = put-long q fits }

  pub ends : rows s ≡ end → Put whole old at now
  unfolding bytes_of rows_in
  ends q =
      put_as g.put whole
      (sym (append-nil g.written) ∙ ap (λ (x : Rows). g.written ++ bytes_of (rows_in e e' x)) (sym q) ∙ g.is)
