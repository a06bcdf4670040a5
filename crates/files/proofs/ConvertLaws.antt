-- The other edition of a diagram file says the same diagram, becomes the file again, and fits the buffer.
-- The diagram that was read is well formed and its limits fit the other edition, so that it is written there and read back; and an
-- accepted file is the writing of its diagram in its edition, so that a second conversion writes it again.
-- Assumes nothing.
use Prim.Native.Nat.{◌<◌, ◌≤◌, ℕ}
use native.Mathlib.Omega.{arith}
use mathlib.Core.Bool.{Bool, cond, false, not, true}
use mathlib.Core.List.{List}
use mathlib.Core.Logic.{inl, inr}
use mathlib.Core.Path.{◌∙◌, ◌≡◌, ap, refl, subst, sym}
use lib.Dec.{leb}
use lib.ListN.{length}
use borrow.Author.Tests.{le-leb, leb-true, lt-leb, not-false}
use Rattle.laws.specs.Connective.{both}
use Rattle.files.specs.Convert.{Converts, converted, narrow, other_edition, other_file, rewritten, too_wide}
use Rattle.files.specs.Diagram.{Diagram}
use Rattle.files.specs.DiagramBytes.{write_diagram}
use Rattle.files.specs.DiagramFile.{edition_in, read_diagram}
use Rattle.files.specs.EditionFields.{rows_in}
use Rattle.files.specs.Field.{Rows, cut, end, row, rows}
use Rattle.files.specs.Limit.{Edition, is_wide}
use Rattle.files.specs.Refusal.{Answer, accepted, and_then, in_buffer, refused}
use Rattle.files.specs.WellFormedDiagram.{FitsDiagram, WfDiagram}
use Rattle.files.proofs.AcceptedBytes.{diagram-file-is, rows-again}
use Rattle.files.proofs.AnswerLaws.{accepted-is, refused-not}
use Rattle.files.proofs.DiagramReadLaws.{edition-of}
use Rattle.files.proofs.DiagramRoundTrip.{diagram-read-back}
use Rattle.files.proofs.DiagramSize.{diagram-written-bytes, diagram-written-most, file_most}
use Rattle.files.proofs.DiagramUnique.{diagram-edition, diagram-fields-again, diagram-fields-in}
use Rattle.files.proofs.DiagramWellFormed.{diagram-fits, diagram-wf}
use Rattle.files.proofs.EndLaws.{by-edition}
use Rattle.files.proofs.FieldLaws.{Whole}
use Rattle.files.proofs.LaidDiagram.{wf-wide}
use Rattle.files.proofs.NarrowLaws.{narrow-iff}

-- ---- the other edition

pub other-known : (e : ℕ) → Edition (other_edition e)
other-known e = go (is_wide e)
  where
    go : (b : Bool) → Edition (cond b 1 2)
    go true = inl refl
    go false = inr refl

pub other-twice : (e : ℕ) → Edition e → other_edition (other_edition e) ≡ e
other-twice = by-edition (λ e. other_edition (other_edition e) ≡ e) refl refl

-- ---- the other edition of what was read

module _ (d : Diagram) (w : WfDiagram d) where
  -- 25 does not refuse what fits the other edition, and only that
  pub fits-of : (e : ℕ) → Edition e → too_wide e d ≡ false → FitsDiagram (other_edition e) d
  unfolding both
  fits-of = by-edition (λ e. too_wide e d ≡ false → FitsDiagram (other_edition e) d)
      (λ h. wf-wide d w) (λ h. (narrow-iff d (wf-wide d w)).0 (not-false (narrow d) h))

  fits-passed : (e : ℕ) → Edition e → FitsDiagram (other_edition e) d → too_wide e d ≡ false
  unfolding both
  fits-passed = by-edition (λ e. FitsDiagram (other_edition e) d → too_wide e d ≡ false)
      (λ f. refl) (λ f. ap not ((narrow-iff d (wf-wide d w)).1 f))

  rewritten-is : (e : ℕ) → Edition e → FitsDiagram (other_edition e) d → rewritten e d ≡ accepted (write_diagram (other_edition e) d)
  unfolding rewritten
  rewritten-is e k f = ap (λ (b : Bool). cond b (refused 25) (accepted (write_diagram (other_edition e) d))) (fits-passed e k f)

  rewritten-of : (e : ℕ) → Edition e → (g : List ℕ) → rewritten e d ≡ accepted g → FitsDiagram (other_edition e) d × (write_diagram (other_edition e) d ≡ g)
  unfolding rewritten
  rewritten-of e k g h = go (too_wide e d) refl h
    where
      go : (b : Bool) → too_wide e d ≡ b → cond b (refused 25) (accepted (write_diagram (other_edition e) d)) ≡ accepted g
          → FitsDiagram (other_edition e) d × (write_diagram (other_edition e) d ≡ g)
      go true q h = absurd (refused-not h)
      go false q h = (fits-of e k q, accepted-is h)

-- what a file becomes, by what was read of it
record Becomes (file g : List ℕ) : Type 0 where
  d : Diagram
  reads : read_diagram file ≡ accepted d
  fits : FitsDiagram (other_edition (edition_in file)) d
  is : write_diagram (other_edition (edition_in file)) d ≡ g

other-of : (file g : List ℕ) → other_file file ≡ accepted g → Becomes file g
unfolding other_file and_then
other-of file g h = go (read_diagram file) refl h
  where
    go : (a : Answer Diagram) → read_diagram file ≡ a → and_then a (rewritten (edition_in file)) ≡ accepted g → Becomes file g
    go (refused n) q h = absurd (refused-not h)
    go (accepted d) q h =
        let p = rewritten-of d (diagram-wf file d q) (edition_in file) (diagram-edition file d q) g h in
        record { d = d; reads = q; fits = p.0; is = p.1 }

pub other_is : (file : List ℕ) (d : Diagram) → read_diagram file ≡ accepted d → FitsDiagram (other_edition (edition_in file)) d
    → other_file file ≡ accepted (write_diagram (other_edition (edition_in file)) d)
unfolding other_file and_then
other_is file d h f =
    ap (λ (a : Answer Diagram). and_then a (rewritten (edition_in file))) h
    ∙ rewritten-is d (diagram-wf file d h) (edition_in file) (diagram-edition file d h) f

-- ---- the buffer

pub converted-is : (file buffer g : List ℕ) → other_file file ≡ accepted g → 4096 ≤ length buffer → converted file buffer ≡ accepted g
unfolding converted and_then in_buffer
converted-is file buffer g h l =
    ap (λ (a : Answer (List ℕ)). and_then a (λ x. in_buffer 4096 buffer (accepted x))) h
    ∙ ap (λ (b : Bool). cond b (accepted g) (refused 20)) (le-leb 4096 (length buffer) l)

pub converted-short : (file buffer g : List ℕ) → other_file file ≡ accepted g → length buffer < 4096 → converted file buffer ≡ refused 20
unfolding converted and_then in_buffer
converted-short file buffer g h l =
    ap (λ (a : Answer (List ℕ)). and_then a (λ x. in_buffer 4096 buffer (accepted x))) h
    ∙ ap (λ (b : Bool). cond b (accepted g) (refused 20)) (lt-leb 4096 (length buffer) l)

pub converted-refused : (file buffer : List ℕ) (n : ℕ) → other_file file ≡ refused n → converted file buffer ≡ refused n
unfolding converted and_then
converted-refused file buffer n h = ap (λ (a : Answer (List ℕ)). and_then a (λ x. in_buffer 4096 buffer (accepted x))) h

pub converted-of : (file buffer g : List ℕ) → converted file buffer ≡ accepted g → (other_file file ≡ accepted g) × (4096 ≤ length buffer)
unfolding converted and_then in_buffer
converted-of file buffer g h = go (other_file file) refl h
  where
    room : (x : List ℕ) (b : Bool) → leb 4096 (length buffer) ≡ b → cond b (accepted x) (refused 20) ≡ accepted g → (x ≡ g) × (4096 ≤ length buffer)
    room x true q h = (accepted-is h, leb-true 4096 (length buffer) q)
    room x false q h = absurd (refused-not h)

    go : (a : Answer (List ℕ)) → other_file file ≡ a → and_then a (λ x. in_buffer 4096 buffer (accepted x)) ≡ accepted g
        → (other_file file ≡ accepted g) × (4096 ≤ length buffer)
    go (refused n) q h = absurd (refused-not h)
    go (accepted x) q h = let r = room x (leb 4096 (length buffer)) refl h in (q ∙ ap accepted r.0, r.1)

-- ---- what is asked of a result

most-of-any : (e : ℕ) → Edition e → file_most e ≤ 4000
most-of-any = by-edition (λ e. file_most e ≤ 4000) (omega arith) (omega arith)

whole-in : (e e' : ℕ) (s : Rows) → Whole s → Whole (rows_in e e' s)
unfolding rows_in
whole-in e e' end w = tt
whole-in e e' cut w = absurd w
whole-in e e' (row t c rest) w = whole-in e e' rest w

pub converts : (file g : List ℕ) → other_file file ≡ accepted g → Converts file g
converts file g h =
    let b = other-of file g h in
    let d = b.d in
    let e = edition_in file in
    let e' = other_edition e in
    let w = diagram-wf file d b.reads in
    let k = diagram-edition file d b.reads in
    let k' = other-known e in
    let x = write_diagram e' d in
    let reads = diagram-read-back d w e' k' b.fits in
    let size : length x ≤ file_most e' = diagram-written-most e' k' d w b.fits in
    let back : other_edition (edition_in x) ≡ e = ap other_edition (edition-of e' d) ∙ other-twice e k in
    let again : other_file x ≡ accepted file =
    other_is x d reads (subst (λ (n : ℕ). FitsDiagram n d) (sym back) (diagram-fits file d b.reads))
    ∙ ap (λ (n : ℕ). accepted (write_diagram n d)) back ∙ ap accepted (diagram-file-is file d b.reads) in
    subst (Converts file) b.is (record {
      read-back = reads ∙ sym b.reads;
      edition = edition-of e' d;
      again = λ buffer l. converted-is x buffer file again l;
      fields =
          ap rows (diagram-fields-in file d b.reads e') ∙ rows-again (rows_in e e' (rows file)) (whole-in e e' (rows file) (diagram-fields-again file d b.reads).0)
          ∙ ap (λ (n : ℕ). rows_in e n (rows file)) (sym (edition-of e' d));
      short = let m : file_most e' ≤ 4000 = most-of-any e' k' in omega arith;
      short-narrow = λ q. subst (λ (n : ℕ). length x ≤ file_most n) (sym (edition-of e' d) ∙ q) size;
      bytes = diagram-written-bytes e' k' d w b.fits;
    })

pub converted-converts : (file buffer g : List ℕ) → converted file buffer ≡ accepted g → Converts file g
converted-converts file buffer g h = converts file g (converted-of file buffer g h).0
