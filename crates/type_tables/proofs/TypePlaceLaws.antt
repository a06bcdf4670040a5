-- A type's place among another diagram's types, by the arrays, is its place by the diagrams.
-- Assumes nothing.
use Prim.Native.Nat.{◌<◌, ℕ}
use native.Mathlib.Omega.{arith}
use mathlib.Core.List.{List}
use mathlib.Core.Path.{◌∙◌, ◌≡◌, ap, sym}
use lib.ListN.{get_or}
use Rattle.files.specs.Diagram.{type_at}
use Rattle.fields.specs.Slot.{slot_name, slot_of}
use Rattle.diagrams.specs.declared.StoredDiagram.{StoredDiagram}
use Rattle.diagrams.specs.View.{diagram_of}
use Rattle.diagrams.proofs.ViewLaws.{type-count}
use Rattle.diagrams.proofs.NamedLaws.{type-named}
use Rattle.resolving.proofs.LookupLaws.{type-index}
use Rattle.type_tables.specs.TypeTables.{TypePlaces}

pub types-placed : (d e : StoredDiagram) (r : List ℕ) → ((i : ℕ) → i < d.types.count → get_or r i 0 ≡ slot_of e.types.names e.types.count (slot_name d.types.names i))
    → TypePlaces (diagram_of d) (diagram_of e) r
types-placed d e r f = record {
  exact = λ i l.
      let h : i < d.types.count = omega (arith, type-count d) in
      f i h ∙ ap (slot_of e.types.names e.types.count) (sym (type-named d i h)) ∙ sym (type-index e (type_at (diagram_of d) i).name);
}
