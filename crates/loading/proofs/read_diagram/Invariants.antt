use mathlib.Core.Path.{◌≡◌}
use Rattle.files.specs.Field.{rows}
use Rattle.files.specs.DiagramFile.{read_diagram, diagram_from}
use Rattle.diagrams.specs.View.{diagram_of}
use Rattle.diagrams.specs.Held.{Held}
use lib.ListN.{length}
use Rattle.loading.proofs.read_diagram.Given as goal

abbrev pub invariant-loop-field : goal.invariant-loop-field
invariant-loop-field l = Held l.d × (read_diagram l.file ≡ diagram_from l.edition l.last (diagram_of l.d) (rows l.rest))

abbrev pub decreases-loop-field : goal.decreases-loop-field
decreases-loop-field l = length l.rest
