-- Exactly which conversions are refused: a file's own refusals come first, 25 comes exactly for edition 2 files with a finite limit
-- above 100, and 20 for those that have the other edition, where the buffer is short.
-- Assumes nothing.
use Prim.Native.Nat.{◌<◌, ◌≤◌, ℕ}
use native.Mathlib.Omega.{arith}
use mathlib.Core.Bool.{Bool, cond, false, not, true}
use mathlib.Core.List.{List}
use mathlib.Core.Logic.{◌↔◌}
use mathlib.Core.Path.{◌∙◌, ◌≡◌, ap, ap₂, refl, subst, sym}
use lib.Dec.{leb}
use lib.ListN.{length}
use borrow.Author.Tests.{eq-eqb, eqb-true, leb-false, leb-true}
use Rattle.laws.specs.Connective.{both}
use Rattle.files.specs.Convert.{TooWide, converted, narrow, other_edition, other_file, rewritten, too_wide}
use Rattle.files.specs.Diagram.{Diagram, no_diagram}
use Rattle.files.specs.DiagramBytes.{write_diagram}
use Rattle.files.specs.DiagramFile.{edition_in, read_diagram}
use Rattle.files.specs.Field.{rows}
use Rattle.files.specs.Limit.{is_wide}
use Rattle.files.specs.Refusal.{Answer, accepted, and_then, in_buffer, refused}
use Rattle.files.proofs.AnswerLaws.{one-refusal, refused-not}
use Rattle.files.proofs.DiagramUnique.{diagram-edition}
use Rattle.files.proofs.DiagramWellFormed.{diagram-wf}
use Rattle.files.proofs.NarrowLaws.{wide-iff}
use Rattle.files.proofs.RefusalLaws.{Within, diagram-refusals}
use Rattle.files.proofs.ConvertLaws.{converted-is, converted-refused, converted-short, fits-of, other_is}

own-few : (file : List ℕ) (n : ℕ) → read_diagram file ≡ refused n → n ≤ 8
unfolding read_diagram
own-few file n h = (subst (Within 8) h (diagram-refusals (edition_in file) 0 no_diagram (rows file))).1

done-or-20 : (b : Bool) (g : List ℕ) → cond b (accepted g) (refused 20) ≡ refused 25 → ⊥
done-or-20 true g h = refused-not (sym h)
done-or-20 false g h = let e = one-refusal _ 20 25 refl h in absurd (omega arith)

module _ (file buffer : List ℕ) where
  -- "the file's own refusals" come first
  pub own-refusal : (n : ℕ) → read_diagram file ≡ refused n → converted file buffer ≡ refused n
  unfolding other_file and_then
  own-refusal n h = converted-refused file buffer n (ap (λ (a : Answer Diagram). and_then a (rewritten (edition_in file))) h)

  -- no other refusal is among those
  not-own : (m n : ℕ) → read_diagram file ≡ refused n → 8 < m → converted file buffer ≡ refused m → ⊥
  not-own m n q l h =
      let e = one-refusal (converted file buffer) n m (own-refusal n q) h in
      let f = own-few file n q in absurd (omega arith)

  -- what follows an accepted file: 25, then 20
  abbrev tried : Diagram → Bool → Answer (List ℕ)
  tried d b = cond b (refused 25) (cond (leb 4096 (length buffer)) (accepted (write_diagram (other_edition (edition_in file)) d)) (refused 20))

  pub converted-read : (d : Diagram) → read_diagram file ≡ accepted d → converted file buffer ≡ tried d (too_wide (edition_in file) d)
  unfolding converted other_file rewritten and_then in_buffer
  converted-read d h =
      ap (λ (a : Answer Diagram). and_then (and_then a (rewritten (edition_in file))) (λ g. in_buffer 4096 buffer (accepted g))) h ∙ go (too_wide (edition_in file) d)
    where
      go : (b : Bool) → and_then (cond b (refused 25) (accepted (write_diagram (other_edition (edition_in file)) d))) (λ g. in_buffer 4096 buffer (accepted g)) ≡ tried d b
      go true = refl
      go false = refl

  -- ---- 25

  pub refused-25-iff : (converted file buffer ≡ refused 25) ↔ TooWide file
  unfolding both
  refused-25-iff = (to (read_diagram file) refl, from)
    where
      by-tests : (d : Diagram) → read_diagram file ≡ accepted d → (a b : Bool) → is_wide (edition_in file) ≡ a → narrow d ≡ b
          → tried d (both a (not b)) ≡ refused 25 → TooWide file
      by-tests d q true false p r h = (d, q, eqb-true (edition_in file) 2 p, (wide-iff d).0 r)
      by-tests d q true true p r h = absurd (done-or-20 _ _ h)
      by-tests d q false b p r h = absurd (done-or-20 _ _ h)

      to : (a : Answer Diagram) → read_diagram file ≡ a → converted file buffer ≡ refused 25 → TooWide file
      to (refused n) q h = absurd (not-own 25 n q (omega arith) h)
      to (accepted d) q h = by-tests d q (is_wide (edition_in file)) (narrow d) refl refl (sym (converted-read d q) ∙ h)

      from : TooWide file → converted file buffer ≡ refused 25
      from w = converted-read w.0 w.1 ∙ ap₂ (λ (a b : Bool). tried w.0 (both a (not b))) (eq-eqb (edition_in file) 2 w.2) ((wide-iff w.0).1 w.3)

  -- ---- 20

  abbrev TooShort : Type 0
  TooShort = (g : List ℕ) × (other_file file ≡ accepted g) × (length buffer < 4096)

  pub refused-20-iff : (converted file buffer ≡ refused 20) ↔ TooShort
  refused-20-iff = (to (read_diagram file) refl, λ w. converted-short file buffer w.0 w.1 w.2)
    where
      by-room : (g : List ℕ) (r : Bool) → other_file file ≡ accepted g → leb 4096 (length buffer) ≡ r → converted file buffer ≡ refused 20 → TooShort
      by-room g true p q h = absurd (refused-not (sym h ∙ converted-is file buffer g p (leb-true 4096 (length buffer) q)))
      by-room g false p q h = (g, p, leb-false 4096 (length buffer) q)

      by-test : (d : Diagram) → read_diagram file ≡ accepted d → (b : Bool) → too_wide (edition_in file) d ≡ b → converted file buffer ≡ refused 20 → TooShort
      by-test d q false r h =
          by-room _ (leb 4096 (length buffer)) (other_is file d q (fits-of d (diagram-wf file d q) (edition_in file) (diagram-edition file d q) r)) refl h
      by-test d q true r h = let e = one-refusal (converted file buffer) 20 25 h (converted-read d q ∙ ap (tried d) r) in absurd (omega arith)

      to : (a : Answer Diagram) → read_diagram file ≡ a → converted file buffer ≡ refused 20 → TooShort
      to (refused n) q h = absurd (not-own 20 n q (omega arith) h)
      to (accepted d) q h = by-test d q (too_wide (edition_in file) d) refl h
