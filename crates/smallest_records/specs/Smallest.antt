-- A smallest record with a property: what a call that looks for a record may give.
-- S file r says that the file reads as r, and that r is one that is looked for. Any with fewest objects may be chosen: "the choice is
-- free". That choice is the only thing that is a relation.
-- Assumes nothing.
use Rattle.std.specs.Prelude.{◌<◌, ◌≤◌, ℕ, List}
use Rattle.std.proofs.Math.Option.{Option, none, some}
use Rattle.files.specs.Record.{Record, object_count}
use Rattle.files.specs.RecordBytes.{write_record}

-- w, as it is written, is looked for and within the bound, and no other that is looked for has fewer objects
pub record Fewest (S : List ℕ → Record → Type 0) (bound : ℕ) (w : Record) : Type 0 where
  pub bounded : object_count w ≤ bound
  pub is : S (write_record w) w
  pub least : (file : List ℕ) (r : Record) → S file r → object_count w ≤ object_count r

-- what is chosen: nothing, where each that is looked for has more objects than the bound; else one with fewest
abbrev pub Chooses : (List ℕ → Record → Type 0) → ℕ → Option Record → Type 0
Chooses S bound none = (file : List ℕ) (r : Record) → S file r → bound < object_count r
Chooses S bound (some w) = Fewest S bound w
