-- The fields of an accepted file are short, and its associations are on their layout with the limits of what was read.
-- Assumes nothing.
use Prim.Native.Nat.{◌<◌, suc, zero, ℕ}
use native.Mathlib.Nat.{le_step, lt-suc_self}
use native.Mathlib.Omega.{arith}
use mathlib.Core.List.{List, [], ◌++◌, ◌∷◌, append-nil, append_assoc}
use mathlib.Core.Path.{◌≡◌, subst, sym}
use lib.ListN.{length}
use Rattle.laws.specs.Lists.{joined}
use Rattle.files.specs.Diagram.{Association, Diagram, association_at, attribute_at, type_at, value_type_at}
use Rattle.files.specs.DiagramBytes.{association_bytes, attribute_bytes, type_bytes, value_type_bytes, write_diagram}
use Rattle.files.specs.DiagramFile.{edition_in, read_diagram}
use Rattle.files.specs.Field.{field, rows}
use Rattle.files.specs.Limit.{Edition}
use Rattle.files.specs.Refusal.{accepted}
use Rattle.files.specs.WellFormedDiagram.{FitsAssociation, FitsDiagram}
use Rattle.files.proofs.AcceptedBytes.{diagram-file-is}
use Rattle.files.proofs.DiagramContents.{association-laid, association-of}
use Rattle.files.proofs.DiagramSize.{association-short, attribute-most, type-most, value-type-most}
use Rattle.files.proofs.DiagramUnique.{diagram-edition}
use Rattle.files.proofs.DiagramWellFormed.{diagram-fits, diagram-wf}
use Rattle.files.proofs.FieldLaws.{rows-field, rows-nothing}
use Rattle.files.proofs.LaidDiagram.{LaidAssociation, LaidDiagram, wf-laid}
use Rattle.converting.specs.Fitting.{AllFit, Fits}

module _ (e e' : ℕ) where
  copied-fits : (t : ℕ) (c : List ℕ) → length c < 65536 → (t ≡ 0x50 → ⊥) → Fits e e' t c
  copied-fits t c l n = record { short = l; laid = λ q. absurd (n q); limits-fit = λ q. absurd (n q) }

  association-fits : Edition e → (a : Association) → LaidAssociation e a → FitsAssociation e' a → Fits e e' 0x50 (association_bytes e a)
  association-fits k a w f = record {
    short = let m = association-short e k a w in omega arith;
    laid = λ q. association-laid e k a w;
    limits-fit = λ q. subst (FitsAssociation e') (sym (association-of e k a w)) f;
  }

  first-fits : (t : ℕ) (c rest : List ℕ) → Fits e e' t c → AllFit e e' (rows rest) → AllFit e e' (rows (field t c ++ rest))
  first-fits t c rest f v = subst (AllFit e e') (sym (rows-field t c rest)) (f, v)

  -- n fields of one tag, and what follows
  fields-fit : (t : ℕ) (g : ℕ → List ℕ) (n : ℕ) (rest : List ℕ) → ((i : ℕ) → i < n → Fits e e' t (g i)) → AllFit e e' (rows rest)
      → AllFit e e' (rows (joined (λ i. field t (g i)) n ++ rest))
  unfolding joined
  fields-fit t g zero rest f v = v
  fields-fit t g (suc n) rest f v =
      subst (λ (x : List ℕ). AllFit e e' (rows x)) (sym (append_assoc (joined (λ i. field t (g i)) n) (field t (g n)) rest))
      (fields-fit t g n (field t (g n) ++ rest) (λ i l. f i (le_step l)) (first-fits t (g n) rest (f n (lt-suc_self n)) v))

  last-fit : (t : ℕ) (g : ℕ → List ℕ) (n : ℕ) → ((i : ℕ) → i < n → Fits e e' t (g i)) → AllFit e e' (rows (joined (λ i. field t (g i)) n))
  last-fit t g n f =
      subst (λ (x : List ℕ). AllFit e e' (rows x)) (append-nil (joined (λ i. field t (g i)) n))
      (fields-fit t g n [] f (subst (AllFit e e') (sym rows-nothing) tt))

  diagram-fits-all : Edition e → (d : Diagram) → LaidDiagram e d → FitsDiagram e' d → AllFit e e' (rows (write_diagram e d))
  unfolding write_diagram
  diagram-fits-all k d w f =
      first-fits 0x10 (e ∷ []) _ (copied-fits 0x10 (e ∷ []) (omega arith) (λ q. omega arith))
      (fields-fit 0x20 (λ i. value_type_bytes (value_type_at d i)) (length d.value_types) _ (λ i l.
      let m = value-type-most (value_type_at d i) (w.value-type i l) in copied-fits 0x20 _ (omega arith) (λ q. omega arith))
      (fields-fit 0x30 (λ i. type_bytes (type_at d i)) (length d.types) _ (λ i l.
      let m = type-most (type_at d i) (w.type i l) in copied-fits 0x30 _ (omega arith) (λ q. omega arith))
      (fields-fit 0x40 (λ i. attribute_bytes (attribute_at d i)) (length d.attributes) _ (λ i l.
      let m = attribute-most (attribute_at d i) (w.attribute-named i l) in copied-fits 0x40 _ (omega arith) (λ q. omega arith))
      (last-fit 0x50 (λ i. association_bytes e (association_at d i)) (length d.associations) (λ i l.
      association-fits k (association_at d i) (w.association i l) (f i l))))))

-- an accepted file, where the limits of what was read fit edition e'
pub file-fits : (file : List ℕ) (d : Diagram) (e' : ℕ) → read_diagram file ≡ accepted d → FitsDiagram e' d → AllFit (edition_in file) e' (rows file)
file-fits file d e' h f =
    let e = edition_in file in
    subst (λ (x : List ℕ). AllFit e e' (rows x)) (diagram-file-is file d h)
    (diagram-fits-all e e' (diagram-edition file d h) d (wf-laid e d (diagram-wf file d h) (diagram-fits file d h)) f)
