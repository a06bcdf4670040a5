-- The sets of a diagram in memory are exact for every first part of its types, and settled by it: a set tests what is reached in the whole
-- diagram, and a first part that has the type reaches the same from it.
-- Assumes nothing.
use Prim.Native.Nat.{ℕ, ◌<◌}
use native.Mathlib.Nat.{lt_of_lt_of_le}
use mathlib.Core.Path.{◌≡◌, refl, sym, ◌∙◌}
use lib.ListN.{get_or}
use Rattle.laws.specs.Bits.{bit}
use Rattle.files.specs.Ancestor.{reaches}
use Rattle.files.proofs.AncestorLaws.{parents-stand-below, reaches-iff}
use Rattle.files.proofs.FirstTypeLaws.{reach-by-first, reached-same, reaches-types}
use Rattle.laws.proofs.ListLaws.{take-same}
use Rattle.diagrams.specs.declared.ReadDiagram.{ReadDiagram}
use Rattle.diagrams.specs.declared.StoredDiagram.{StoredDiagram}
use Rattle.diagrams.specs.Held.{Held, only_types}
use Rattle.diagrams.specs.View.{diagram_of}
use Rattle.diagrams.specs.FirstSets.{FirstSets, SetsSettled}

-- a set tests what is reached
pub set-reaches : (d : StoredDiagram) → Held d → (i j : ℕ) → i < d.types.count → bit j (get_or d.types.sets i 0) ≡ reaches (diagram_of d) i j
unfolding diagram_of
set-reaches d held i j l = held.sets.exact i j l ∙ reaches-types (only_types d.types) (diagram_of d) refl i j

-- "exactly", in any first part of the types
pub first-sets : (d : StoredDiagram) → Held d → FirstSets d
first-sets d held = record {
  exact = λ n i j few l.
      let is : bit j (get_or d.types.sets i 0) ≡ reaches (diagram_of d) i j = set-reaches d held i j (lt_of_lt_of_le l few) in
      let whole = reaches-iff (diagram_of d) held.wf i j in
      let first = (reach-by-first (diagram_of d) held.wf).same n i j l in
      (λ b. first.1 (whole.0 (sym is ∙ b)), λ r. is ∙ whole.1 (first.0 r));
}

-- "whatever types follow"
pub sets-settled : (d e : StoredDiagram) → Held d → Held e → SetsSettled d e
unfolding diagram_of
sets-settled d e held other = record {
  same = λ n i j few more begin l.
      set-reaches d held i j (lt_of_lt_of_le l few)
      ∙ sym (set-reaches e other i j (lt_of_lt_of_le l more)
      ∙ reached-same (diagram_of d) (diagram_of e) n (λ k b. take-same n k (diagram_of d).types (diagram_of e).types _ b begin) (parents-stand-below (diagram_of d) held.wf) i j l);
}

-- ---- of every diagram that was read, from a file or a text

pub read-first-sets : (d : ReadDiagram) → FirstSets d.stored
read-first-sets d = first-sets d.stored d.held

pub read-sets-settled : (d e : ReadDiagram) → SetsSettled d.stored e.stored
read-sets-settled d e = sets-settled d.stored e.stored d.held e.held
