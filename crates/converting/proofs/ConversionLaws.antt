-- What is promised of each way out: the file's refusal, 25, 20, and the file that was put.
-- Assumes nothing.
use Prim.Native.Nat.{◌+◌, ◌<◌, ◌≤◌, ℕ}
use native.Mathlib.Omega.{arith}
use mathlib.Core.Bool.{Bool, ◌&&◌, cond, false, not, true}
use mathlib.Core.List.{List}
use mathlib.Core.Path.{◌∙◌, ◌≡◌, ap, ap₂, refl, sym}
use lib.Dec.{eqb}
use lib.ListN.{length}
use Rattle.std.specs.Prelude.{Err, Ok, Result}
use Rattle.laws.specs.Lists.{over}
use Rattle.laws.proofs.ConnectiveLaws.{and-is-both}
use Rattle.files.specs.Convert.{buffer_after, converted, narrow, other_edition, other_file, rewritten, too_wide}
use Rattle.files.specs.Diagram.{Diagram}
use Rattle.files.specs.DiagramBytes.{write_diagram}
use Rattle.files.specs.DiagramFile.{edition_in, read_diagram}
use Rattle.files.specs.EditionFields.{rows_in}
use Rattle.files.specs.Field.{bytes_of, rows}
use Rattle.files.specs.Refusal.{Answer, accepted, and_then, refusal_of, refused}
use Rattle.files.specs.WellFormedDiagram.{FitsDiagram}
use Rattle.files.proofs.AnswerLaws.{accepted-is, refused-not}
use Rattle.files.proofs.ConvertLaws.{converted-is, converted-short, converts, fits-of, other_is}
use Rattle.files.proofs.ConvertRefusals.{converted-read, own-refusal}
use Rattle.files.proofs.DiagramUnique.{diagram-edition, diagram-fields-in}
use Rattle.files.proofs.DiagramWellFormed.{diagram-wf}
use Rattle.fields.specs.Refusal.{answer_of, number_of}
use Rattle.fields.specs.declared.Refusal.{Refusal}
use Rattle.field_writers.specs.Put.{Put}
use Rattle.converting.specs.Conversion.{Conversion}
use Rattle.converting.specs.Fitting.{AllFit}
use Rattle.converting.proofs.FittingLaws.{file-fits}

module _ (file before : List ℕ) where
  -- a refusal, and the buffer as it came
  refusing : (r : Result ℕ Refusal) (n : ℕ) → answer_of (λ n. n) r ≡ refused n → converted file before ≡ refused n → Conversion file before r before
  unfolding and_then buffer_after
  refusing r n p h = record {
    says = p ∙ ap (λ (a : Answer (List ℕ)). and_then a (λ g. accepted (length g))) (sym h);
    leaves = ap (buffer_after before) (sym h);
  }

  pub reader-refusal : (r : Result ℕ Refusal) (n : ℕ) → answer_of (λ n. n) r ≡ refused n → refused n ≡ read_diagram file → Conversion file before r before
  reader-refusal r n p h = refusing r n p (own-refusal file before n (sym h))

  module _ (d : Diagram) (h : read_diagram file ≡ accepted d) where
    abbrev e : ℕ
    e = edition_in file

    abbrev e' : ℕ
    e' = other_edition e

    -- the test of the code
    pub wide-test : {from : ℕ} {r b : Bool} → from ≡ e → r ≡ narrow d → (eqb from 2 && not r) ≡ b → too_wide e d ≡ b
    wide-test p q t = sym (and-is-both (eqb e 2) (not (narrow d))) ∙ ap₂ (λ (n : ℕ) (x : Bool). eqb n 2 && not x) (sym p) (sym q) ∙ t

    pub wide-refusal : (r : Result ℕ Refusal) → answer_of (λ n. n) r ≡ refused 25 → too_wide e d ≡ true → Conversion file before r before
    wide-refusal r p w = refusing r 25 p (converted-read file before d h ∙ rw (w))

    module _ (w : too_wide e d ≡ false) where
      fits : FitsDiagram e' d
      fits = fits-of d (diagram-wf file d h) e (diagram-edition file d h) w

      is : other_file file ≡ accepted (write_diagram e' d)
      is = other_is file d h fits

      fields : write_diagram e' d ≡ bytes_of (rows_in e e' (rows file))
      fields = diagram-fields-in file d h e'

      pub short-refusal : (r : Result ℕ Refusal) → answer_of (λ n. n) r ≡ refused 20 → length before < 4096 → Conversion file before r before
      short-refusal r p l = refusing r 20 p (converted-short file before (write_diagram e' d) is l)

      pub all-fit : AllFit e e' (rows file)
      all-fit = file-fits file d e' h fits

      pub room : 4096 ≤ length before → length (bytes_of (rows_in e e' (rows file))) + 96 ≤ length before
      room l = let s = (converts file (write_diagram e' d) is).short in omega (arith, ap length fields)

      pub puts : {n : ℕ} {after : List ℕ} (r : Result ℕ Refusal) → answer_of (λ n. n) r ≡ accepted n → 4096 ≤ length before
          → Put (bytes_of (rows_in e e' (rows file))) before n after → Conversion file before r after
      unfolding and_then buffer_after
      puts {n} {after} r p l q =
          let g : converted file before ≡ accepted (bytes_of (rows_in e e' (rows file))) =
          converted-is file before (write_diagram e' d) is l ∙ ap accepted fields in
          record {
            says = p ∙ ap accepted q.length-is ∙ ap (λ (a : Answer (List ℕ)). and_then a (λ g. accepted (length g))) (sym g);
            leaves = q.bytes ∙ ap (buffer_after before) (sym g);
          }

-- ---- what follows from it

module _ {file before after : List ℕ} where
  -- n bytes were put: those of the file in its other edition
  pub conversion-done : {n : ℕ} → Conversion file before (Ok n) after → (g : List ℕ) × (converted file before ≡ accepted g) × (n ≡ length g) × (after ≡ over g before)
  unfolding and_then buffer_after
  conversion-done {n} c = go (converted file before) refl c.says
    where
      go : (a : Answer (List ℕ)) → converted file before ≡ a → accepted n ≡ and_then a (λ g. accepted (length g))
          → (g : List ℕ) × (converted file before ≡ accepted g) × (n ≡ length g) × (after ≡ over g before)
      go (refused m) q p = absurd (refused-not (sym p))
      go (accepted g) q p = (g, q, accepted-is p, c.leaves ∙ ap (buffer_after before) q)

  -- a refusal: the buffer is as it came
  pub conversion-refused : {y : Refusal} → Conversion file before (Err y) after → (converted file before ≡ refused (number_of y)) × (after ≡ before)
  unfolding and_then buffer_after refusal_of
  conversion-refused {y} c = go (converted file before) refl c.says
    where
      go : (a : Answer (List ℕ)) → converted file before ≡ a → refused (number_of y) ≡ and_then a (λ g. accepted (length g))
          → (converted file before ≡ refused (number_of y)) × (after ≡ before)
      go (refused m) q p = (q ∙ ap refused (sym (ap refusal_of p)), c.leaves ∙ ap (buffer_after before) q)
      go (accepted g) q p = absurd (refused-not p)
