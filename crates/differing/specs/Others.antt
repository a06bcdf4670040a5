-- The tables of another diagram, new, by the types and role slots of old.
-- Assumes nothing.
use Rattle.std.specs.Prelude.{◌<◌, ℕ, Bool, List, ◌≡◌, length}
use Rattle.laws.specs.Bits.{bit}
use Rattle.laws.specs.Connective.{either}
use Rattle.files.specs.Diagram.{Diagram}
use Rattle.worlds.specs.Tables.{LinesOf, RowTables, SingleTypes, links_missing, single_missing}
use Rattle.worlds.specs.declared.Lines.{Lines}
use Rattle.type_values.specs.Bad.{bad_by}

-- an object of a bad type breaks a rule of new on types, values or roles, or can break it
pub record TablesOf (old new : Diagram) (bad singles : ℕ) (missing : Bool) (targets lows highs : List ℕ) (x : Lines) : Type 0 where
  pub bad-is : (t : ℕ) → t < length old.types → bit t bad ≡ either (bad_by old new t) (links_missing old new t)
  pub of-singles : SingleTypes old new singles
  pub missing-is : missing ≡ single_missing old new
  pub of-rows : RowTables old new targets lows highs
  pub of-lines : LinesOf old new x
