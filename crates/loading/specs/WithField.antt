-- A diagram in memory with a field more, of a file of some edition.
-- Assumes nothing.
use Rattle.std.specs.Prelude.{ℕ, List, ◌≡◌}
use Rattle.files.specs.DiagramFile.{diagram_refusal, diagram_with}
use Rattle.diagrams.specs.declared.StoredDiagram.{StoredDiagram}
use Rattle.diagrams.specs.View.{diagram_of}
use Rattle.diagrams.specs.Held.{Held}

-- what is asked: behind a field of some tag, this field is not refused
pub record FieldPasses (edition : ℕ) (d : StoredDiagram) (tag : ℕ) (c : List ℕ) : Type 0 where
  pub last : ℕ
  pub passed : diagram_refusal edition last (diagram_of d) tag c ≡ 0
  pub held : Held d

pub record WithField (edition : ℕ) (d : StoredDiagram) (tag : ℕ) (c : List ℕ) (r : StoredDiagram) : Type 0 where
  pub says : diagram_of r ≡ diagram_with edition (diagram_of d) tag c
  pub held : Held r
