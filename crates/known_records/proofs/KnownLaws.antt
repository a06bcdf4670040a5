-- Whether the diagram has an index for everything in a record, in the terms of the arrays: one law for each way out of the functions.
-- Assumes nothing.
use Prim.Native.Nat.{ℕ, ◌%◌, ◌*◌, ◌+◌, ◌-◌, ◌/◌, ◌^◌, ◌<◌, ◌≤◌}
use mathlib.Core.Bool.{Bool, true, false}
use mathlib.Core.List.{[]}
use mathlib.Core.Path.{◌≡◌, sym, ap, ap₂, ◌∙◌}
use lib.Dec.{eqb, ltb}
use lib.ListN.{length, get_or}
use borrow.Author.Tests.{eq-eqb, ne_eqb, le-ltb, lt-ltb}
use Rattle.laws.specs.Bounded.{all}
use Rattle.laws.specs.Connective.{both, either}
use Rattle.laws.proofs.JoinedLaws.{length-each}
use Rattle.laws.proofs.SearchLaws.{both-no, both_yes, either-no, either-yes}
use Rattle.files.specs.Diagram.{value_type_at}
use Rattle.fields.specs.Slot.{known_in, slot_name}
use Rattle.diagrams.specs.declared.StoredDiagram.{StoredDiagram}
use Rattle.diagrams.specs.View.{diagram_of, value_type_in}
use Rattle.diagrams.proofs.ViewLaws.{association-count, attribute-count, type-count, value-type-at, value-type-count}
use Rattle.records.specs.declared.MemoryRecord.{MemoryRecord}
use Rattle.records.specs.Written.{constant_known, value_in}
use Rattle.records.specs.WithinTest.{object_known, row_known, targets_known, value_known, values_known}
use Rattle.records.proofs.WithinLaws.{row_below}

-- a mask of targets by one comparison
pub row_by : (n x : ℕ) {w p : ℕ} → w ≡ x → w < 256 → p ≡ 2 ^ n → ltb w p ≡ row_known n x
row_by n x e l q = ap (ltb _) q ∙ row_below n _ l ∙ ap (row_known n) e

module _ (d : StoredDiagram) where
  -- ---- one value

  pub value_none : (v : ℕ) → v ≡ 0 → true ≡ value_known (diagram_of d) v
  unfolding value_known
  value_none v e = either-yes _ (eq-eqb v 0 e)

  named : ℕ → Bool
  named v = both (ltb ((v - 1) / 8) (length (diagram_of d).value_types)) (constant_known (diagram_of d) (v - 1))

  pub value-untyped : (v t : ℕ) → (v ≡ 0 → ⊥) → t ≡ (v - 1) / 8 → d.values.count ≤ t → false ≡ value_known (diagram_of d) v
  unfolding value_known named
  value-untyped v t n e l =
      either-no {b = named v} (ne_eqb v 0 n)
      (both-no _ (ap₂ ltb (sym e) (value-type-count d) ∙ le-ltb t d.values.count l))

  size_of : (i : ℕ) → i < d.values.count → length (value_type_at (diagram_of d) i).constants ≡ get_or d.values.sizes i 0
  unfolding value_type_in
  size_of i l = ap (λ v. length v.constants) (value-type-at d i l) ∙ length-each (λ k. slot_name d.values.constants (i * 8 + k)) [] (get_or d.values.sizes i 0)

  pub value-typed : (v t n : ℕ) → (v ≡ 0 → ⊥) → t ≡ (v - 1) / 8 → t < d.values.count → n ≡ get_or d.values.sizes t 0
      → known_in n ((v - 1) % 8) ≡ value_known (diagram_of d) v
  unfolding value_known named known_in
  value-typed v t n z e l q =
      either-no {b = named v} (ne_eqb v 0 z)
      (both_yes (ap₂ ltb (sym e) (value-type-count d) ∙ lt-ltb t d.values.count l)
      (ap (λ (k : ℕ). either (ltb ((v - 1) % 8) k) (both (eqb k 0) (eqb ((v - 1) % 8) 0))) size))
    where
      size : n ≡ length (value_type_at (diagram_of d) ((v - 1) / 8)).constants
      size = q ∙ sym (size_of t l) ∙ ap (λ (i : ℕ). length (value_type_at (diagram_of d) i).constants) e

  -- ---- one object

  module _ (m : MemoryRecord) (o : ℕ) where
    pub values-stored : all (λ s. value_known (diagram_of d) (value_in m o s)) d.attributes.count ≡ values_known (diagram_of d) m o
    unfolding values_known
    values-stored = ap (all (λ s. value_known (diagram_of d) (value_in m o s))) (sym (attribute-count d))

    pub targets-stored : all (λ s. row_known m.count (get_or m.links (o * 32 + s) 0)) (d.associations.count * 2) ≡ targets_known (diagram_of d) m o
    unfolding targets_known
    targets-stored = ap (λ (a : ℕ). all (λ s. row_known m.count (get_or m.links (o * 32 + s) 0)) (a * 2)) (sym (association-count d))

    pub object-stored : both (ltb (get_or m.types o 0) d.types.count) (both (values_known (diagram_of d) m o) (targets_known (diagram_of d) m o)) ≡ object_known (diagram_of d) m o
    unfolding object_known
    object-stored = ap (λ (n : ℕ). both (ltb (get_or m.types o 0) n) (both (values_known (diagram_of d) m o) (targets_known (diagram_of d) m o))) (sym (type-count d))
