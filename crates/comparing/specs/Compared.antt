-- What the code that compares promises, over the definition of a difference.
-- Assumes nothing.
use Rattle.std.specs.Prelude.{ℕ, IfSome, None, Option, Some}
use Rattle.std.proofs.Math.Option as maybe
use Rattle.files.specs.Diagram.{Diagram}
use Rattle.files.specs.Record.{Record}
use Rattle.records.specs.declared.MemoryRecord.{MemoryRecord}
use Rattle.records.specs.Written.{Within, record_of}
use Rattle.smallest_records.specs.Difference.{Gap}
use Rattle.smallest_records.specs.Smallest.{Chooses}

-- the record that was found, by old's names
unfoldable pub found_in : Diagram → Option MemoryRecord → maybe.Option Record
found_in old None = maybe.none
found_in old (Some m) = maybe.some (record_of old m)

-- "difference" with a least witness, or "no difference"; a witness has an index of old for everything
pub record Compares (old new : Diagram) (bound : ℕ) (found : Option MemoryRecord) : Type 0 where
  pub finds : Chooses (Gap old new) bound (found_in old found)
  pub within : IfSome found (Within old)
