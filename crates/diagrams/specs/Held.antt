-- What holds of every diagram in memory that a file or nothing was read into; the layers above rely on it by field name.
-- Assumes nothing.
use Rattle.std.specs.Prelude.{ℕ, ◌<◌, ◌≤◌, [], ◌≡◌, get_or}
use Rattle.laws.specs.Bits.{bit}
use Rattle.files.specs.Diagram.{Diagram}
use Rattle.files.specs.Ancestor.{reaches}
use Rattle.files.specs.WellFormedDiagram.{WfDiagram}
use Rattle.diagrams.specs.declared.Types.{Types}
use Rattle.diagrams.specs.declared.StoredDiagram.{StoredDiagram}
use Rattle.diagrams.specs.View.{types_of, diagram_of}

-- no more of each than the arrays have room for
pub record Counts (d : StoredDiagram) : Type 0 where
  pub value-types : d.values.count ≤ 12
  pub types : d.types.count ≤ 24
  pub attributes : d.attributes.count ≤ 32
  pub associations : d.associations.count ≤ 16

-- a diagram of types alone
abbrev pub only_types : Types → Diagram
only_types t = record { value_types = []; types = types_of t; attributes = []; associations = [] }

-- "the set of types it counts as is kept as one bit for each type": each type's set holds exactly what is reached from it. It
-- speaks of the types read so far, and so of every first part of a diagram's types.
pub record Sets (t : Types) : Type 0 where
  pub exact : (i j : ℕ) → i < t.count → bit j (get_or t.sets i 0) ≡ reaches (only_types t) i j

pub record Held (d : StoredDiagram) : Type 0 where
  pub counts : Counts d
  pub wf : WfDiagram (diagram_of d)
  pub sets : Sets d.types
