-- The kinds of the types are an array of the stored diagram itself.
-- Assumes nothing.
use Prim.Native.Nat.{◌<◌, ℕ}
use mathlib.Core.Path.{ap, subst, sym}
use Rattle.files.specs.Diagram.{TypeDef}
use Rattle.diagrams.specs.declared.StoredDiagram.{StoredDiagram}
use Rattle.diagrams.specs.View.{diagram_of, type_in}
use Rattle.diagrams.proofs.ViewLaws.{type-at, type-count}
use Rattle.type_tables.specs.TypeTables.{Kinds}

module _ (d : StoredDiagram) where
  pub stored-kinds : Kinds (diagram_of d) d.types.kinds
  unfolding type_in
  stored-kinds = record { exact = λ t l. sym (ap (λ (x : TypeDef). x.kind) (type-at d t (subst (λ (n : ℕ). t < n) (type-count d) l))) }
