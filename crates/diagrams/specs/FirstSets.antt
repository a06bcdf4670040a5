-- The sets of a diagram in memory by any first part of its types. 02 5/12: "After any first part of the types, each of their sets holds
-- exactly the type itself and what is reached from it through parents, whatever types follow."
-- Assumes nothing.
use Rattle.std.specs.Prelude.{ℕ, ◌<◌, ◌≤◌, true, ◌≡◌, ◌↔◌, get_or, take}
use Rattle.laws.specs.Bits.{bit}
use Rattle.files.specs.Ancestor.{Reach}
use Rattle.files.specs.FirstTypes.{first_types}
use Rattle.diagrams.specs.declared.StoredDiagram.{StoredDiagram}
use Rattle.diagrams.specs.View.{diagram_of, types_of}

-- "exactly the type itself and what is reached from it", in the diagram of the first n types alone
pub record FirstSets (d : StoredDiagram) : Type 0 where
  pub exact : (n i j : ℕ) → n ≤ d.types.count → i < n → (bit j (get_or d.types.sets i 0) ≡ true) ↔ Reach (first_types n (diagram_of d)) i j

-- "whatever types follow": where two diagrams begin with the same n types, these have the same sets
pub record SetsSettled (d e : StoredDiagram) : Type 0 where
  pub same : (n i j : ℕ) → n ≤ d.types.count → n ≤ e.types.count → take n (types_of d.types) ≡ take n (types_of e.types) → i < n
      → bit j (get_or d.types.sets i 0) ≡ bit j (get_or e.types.sets i 0)
