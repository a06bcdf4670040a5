-- The parts of the bench in memory: a place, a witness, and what they stand for.
-- Assumes nothing.
use Rattle.std.specs.Prelude.{◌≤◌, ℕ, cond, eqb, Option, None, Some, IsSome}
use Rattle.std.proofs.Math.Option as math
use Rattle.files.specs.Diagram.{Diagram, no_diagram}
use Rattle.files.specs.Record.{Record}
use Rattle.diagrams.specs.View.{diagram_of}
use Rattle.diagrams.specs.declared.ReadDiagram.{ReadDiagram}
use Rattle.records.specs.Written.{Within, record_of}
use Rattle.bench.specs.declared.parts.Witness.{Witness}

-- ---- what stands where nothing is

abbrev pub no_place : Option ReadDiagram
no_place = None

abbrev pub no_witness : Option Witness
no_witness = None

-- ---- places

-- of two, the one of place p
unfoldable pub pick : ℕ → Option ReadDiagram → Option ReadDiagram → Option ReadDiagram
pick p x y = cond (eqb p 0) x y

-- the diagram that was read
abbrev pub diagram_by : ReadDiagram → Diagram
diagram_by d = diagram_of d.stored

abbrev pub diagram_in : Option ReadDiagram → math.Option Diagram
diagram_in (Some d) = math.some (diagram_by d)
diagram_in None = math.none

-- the diagram whose names are taken; an empty place has none
abbrev pub names_of : Option ReadDiagram → Diagram
names_of (Some d) = diagram_by d
names_of None = no_diagram

-- ---- the witness

-- by the names of the diagram in its place
abbrev pub witness_in : Option ReadDiagram → Option ReadDiagram → Option Witness → math.Option Record
witness_in old new (Some w) = math.some (record_of (names_of (pick w.place old new)) w.found)
witness_in old new None = math.none

-- it has an index of the diagram in its place for everything
pub record ValidWitness (old new : Option ReadDiagram) (w : Witness) : Type 0 where
  pub whose : w.place ≤ 1
  pub ready : IsSome (pick w.place old new)
  pub within : Within (names_of (pick w.place old new)) w.found
