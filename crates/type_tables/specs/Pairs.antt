-- What the two diagrams of a pair declare.
-- Assumes nothing.
use Rattle.files.specs.Diagram.{Diagram}
use Rattle.diagrams.specs.View.{diagram_of}
use Rattle.type_tables.specs.declared.Pair.{Pair}

-- the diagram whose types and slots are used
abbrev pub old_of : Pair → Diagram
old_of p = diagram_of p.old.now.stored

-- the diagram that is asked
abbrev pub new_of : Pair → Diagram
new_of p = diagram_of p.new.now.stored
