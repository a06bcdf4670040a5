-- What holds of a diagram that was read has one proof at most, so a struct can carry it.
-- Assumes nothing.
use Prim.Native.Nat.{ℕ}
use mathlib.Core.HLevel.{Unit-prop}
use denote.Struct.Props.{props}
use Rattle.files.specs.Diagram.{Upper, at_most, no_limit}
use Rattle.files.specs.WellFormedDiagram.{FitsUpper}
use Rattle.diagrams.specs.declared.StoredDiagram.{StoredDiagram}
use Rattle.diagrams.specs.Held.{Held}

pub FitsUpper-prop : (e low : ℕ) (u : Upper) → IsProp (FitsUpper e low u)
FitsUpper-prop e low (at_most up) = Prim.hlevel props
FitsUpper-prop e low no_limit = Unit-prop

pub Held-prop : (d : StoredDiagram) → IsProp (Held d)
Held-prop d = Prim.hlevel (FitsUpper-prop, props)
