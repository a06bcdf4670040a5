-- What reading a diagram file into memory promises.
-- Assumes nothing.
use Rattle.std.specs.Prelude.{ℕ, List, ◌≡◌, Result}
use Rattle.fields.specs.Refusal.{answer_of}
use Rattle.fields.specs.declared.Refusal.{Refusal}
use Rattle.files.specs.DiagramFile.{read_diagram}
use Rattle.diagrams.specs.View.{diagram_of}
use Rattle.diagrams.specs.declared.ReadDiagram.{ReadDiagram}

-- that what is accepted is held stands with the diagram itself
pub record Loads (file : List ℕ) (r : Result ReadDiagram Refusal) : Type 0 where
  pub says : answer_of (λ d. diagram_of d.stored) r ≡ read_diagram file
