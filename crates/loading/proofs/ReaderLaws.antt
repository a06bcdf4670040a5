-- The loop over the fields of a diagram file: what is read of the whole file is what is read of the rest, behind what came.
-- Assumes nothing.
use Prim.Native.Nat.{ℕ, zero, suc, ◌<◌}
use native.Mathlib.Omega.{arith}
use mathlib.Core.Bool.{Bool, cond}
use mathlib.Core.List.{List}
use mathlib.Core.Path.{◌≡◌, refl, sym, ap, ap₂, ◌∙◌, subst}
use borrow.Author.Tests.{eq-eqb, ne_eqb}
use Rattle.std.specs.Prelude.{Result, Ok, Err, IsErrAnd}
use Rattle.fields.specs.Field.{AtFront}
use Rattle.fields.specs.Refusal.{number_of}
use Rattle.fields.specs.declared.Field.{Field}
use Rattle.fields.specs.declared.Refusal.{Refusal}
use Rattle.fields.specs.declared.Refusal.TheVariants.{Cut, Misplaced}
use Rattle.fields.proofs.RefusalLaws.{numbered, passed-on}
use Rattle.files.specs.Diagram.{Diagram}
use Rattle.files.specs.DiagramFile.{diagram_from, diagram_refusal, diagram_with, edition_in, read_diagram}
use Rattle.files.specs.Field.{Rows, cut, end, row, rows}
use Rattle.files.specs.Refusal.{Answer, accepted, or_refused, refused}
use Rattle.files.proofs.DiagramWellFormed.{nothing-wf}
use Rattle.files.specs.WellFormedDiagram.{WfDiagram}
use Rattle.diagrams.specs.declared.ReadDiagram.{ReadDiagram}
use Rattle.diagrams.specs.declared.StoredDiagram.{StoredDiagram}
use Rattle.diagrams.specs.Empty.{empty_diagram}
use Rattle.diagrams.specs.Held.{Held}
use Rattle.diagrams.specs.View.{diagram_of}
use Rattle.diagrams.proofs.ViewLaws.{empty-counts, empty-sets, empty-view}
use Rattle.loading.specs.WithField.{WithField}
use Rattle.loading.specs.Loads.{Loads}

-- ---- the empty diagram

empty-held : Held empty_diagram
empty-held = record { counts = empty-counts; wf = subst WfDiagram (sym empty-view) nothing-wf; sets = empty-sets }

pub start-held : {d : StoredDiagram} → d ≡ empty_diagram → Held d
start-held e = subst Held (sym e) empty-held

pub start-says : (file : List ℕ) {edition : ℕ} {d : StoredDiagram} → edition ≡ edition_in file → d ≡ empty_diagram
    → read_diagram file ≡ diagram_from edition 0 (diagram_of d) (rows file)
unfolding read_diagram
start-says file k e = ap₂ (λ (n : ℕ) (x : Diagram). diagram_from n 0 x (rows file)) (sym k) (sym empty-view ∙ sym (ap diagram_of e))

-- ---- replies

pub refuses : (file : List ℕ) (e : Refusal) (r : Result ReadDiagram Refusal) → read_diagram file ≡ refused (number_of e) → IsErrAnd r (λ y. y ≡ e) → Loads file r
refuses file e (Ok d) q h = absurd h
refuses file e (Err y) q h = record { says = passed-on (λ (d : ReadDiagram). diagram_of d.stored) (Err y) e h ∙ sym q }

or-refused : (n : ℕ) (a : Answer Diagram) → 0 < n → or_refused n a ≡ refused n
unfolding or_refused
or-refused zero a h = absurd (omega arith)
or-refused (suc n) a h = refl

or-passed : (n : ℕ) (a : Answer Diagram) → 0 ≡ n → or_refused n a ≡ a
unfolding or_refused
or-passed zero a h = refl
or-passed (suc n) a h = absurd (omega arith)

-- behind the diagram d and a field of the tag last, s is left
module _ (file s : List ℕ) (edition last : ℕ) (d : StoredDiagram) (e : read_diagram file ≡ diagram_from edition last (diagram_of d) (rows s)) where
  from : (x : Rows) → rows s ≡ x → read_diagram file ≡ diagram_from edition last (diagram_of d) x
  from x h = e ∙ ap (diagram_from edition last (diagram_of d)) h

  pub reply-empty : rows s ≡ end → last ≡ 0 → Loads file (Err Misplaced)
  unfolding diagram_from
  reply-empty h z =
      refuses file Misplaced (Err Misplaced) (from end h ∙ ap (λ (b : Bool). cond {A = Answer Diagram} b (refused 2) (accepted (diagram_of d))) (eq-eqb last 0 z)) refl

  pub reply-accepted : (r : ReadDiagram) → r.stored ≡ d → rows s ≡ end → (last ≡ 0 → ⊥) → Loads file (Ok r)
  unfolding diagram_from
  reply-accepted r q h n = record {
    says =
        ap (λ (x : StoredDiagram). accepted (diagram_of x)) q
        ∙ sym (from end h ∙ ap (λ (b : Bool). cond {A = Answer Diagram} b (refused 2) (accepted (diagram_of d))) (ne_eqb last 0 n));
  }

  pub reply-cut : (y : Refusal) (r : Result ReadDiagram Refusal) → (rows s ≡ cut) × (y ≡ Cut) → IsErrAnd r (λ z. z ≡ y) → Loads file r
  unfolding diagram_from
  reply-cut y r h q = refuses file y r (from cut h.0 ∙ ap (λ (z : Refusal). refused (number_of z)) (sym h.1)) q

  -- ---- a whole field
  module _ (f : Field) (w : AtFront s f) where
    -- one field is taken off the front
    taken : read_diagram file
        ≡ or_refused (diagram_refusal edition last (diagram_of d) f.tag f.content.now) (diagram_from edition f.tag (diagram_with edition (diagram_of d) f.tag f.content.now) (rows f.rest.now))
    unfolding diagram_from
    taken = from (row f.tag f.content.now (rows f.rest.now)) w.is

    pub reply-refused : (y : Refusal) (r : Result ReadDiagram Refusal) → number_of y ≡ diagram_refusal edition last (diagram_of d) f.tag f.content.now → IsErrAnd r (λ z. z ≡ y)
        → Loads file r
    reply-refused y r h q =
        refuses file y r (taken ∙ or-refused _ _ (let n = numbered y in omega (arith, h)) ∙ ap (λ (k : ℕ). refused k) (sym h)) q

    pub field-on : (g : StoredDiagram) → 0 ≡ diagram_refusal edition last (diagram_of d) f.tag f.content.now → WithField edition d f.tag f.content.now g
        → read_diagram file ≡ diagram_from edition f.tag (diagram_of g) (rows f.rest.now)
    field-on g h k = taken ∙ or-passed _ _ h ∙ ap (λ (y : Diagram). diagram_from edition f.tag y (rows f.rest.now)) (sym k.says)
