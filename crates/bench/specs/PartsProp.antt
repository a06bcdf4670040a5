-- That a witness has an index for everything has one proof at most, so the bench can carry it.
-- Assumes nothing.
use mathlib.Core.HLevel.{Unit-prop}
use denote.Struct.Props.{props}
use Rattle.std.specs.Prelude.{Option, None, Some, IfSome}
use Rattle.diagrams.specs.declared.ReadDiagram.{ReadDiagram}
use Rattle.bench.specs.Parts.{ValidWitness}
use Rattle.bench.specs.declared.parts.Witness.{Witness}

ValidWitness-prop : (old new : Option ReadDiagram) (w : Witness) → IsProp (ValidWitness old new w)
ValidWitness-prop old new w = Prim.hlevel props

pub fits-prop : (old new : Option ReadDiagram) (w : Option Witness) → IsProp (IfSome w (ValidWitness old new))
fits-prop old new None = Unit-prop
fits-prop old new (Some w) = ValidWitness-prop old new w
