-- What the search by number of objects promises, over well-formed records: those that have a file.
-- Assumes nothing.
use Rattle.std.specs.Prelude.{◌≤◌, suc, ℕ, IfNone, IfSome, Option}
use Rattle.files.specs.Diagram.{Diagram}
use Rattle.files.specs.Record.{Record, object_count}
use Rattle.files.specs.WellFormedRecord.{WfRecord}
use Rattle.records.specs.declared.MemoryRecord.{MemoryRecord}
use Rattle.rules.specs.Judge.{Illegal, Legal}
use Rattle.fillings.specs.Witness.{Witness}

-- no record with fewer than n objects is legal for old and illegal for new
pub record NoneBelow (old new : Diagram) (n : ℕ) : Type 0 where
  pub at_least : (r : Record) → WfRecord r → Legal old r → Illegal new r → n ≤ object_count r

-- what is found is such a record of at most `most` objects, with fewest; none where there is none
pub record Sought (old new : Diagram) (most : ℕ) (found : Option MemoryRecord) : Type 0 where
  pub bounded : IfSome found (λ m. m.count ≤ most)
  pub sound : IfSome found (Witness old new)
  pub least : IfSome found (λ m. NoneBelow old new m.count)
  pub complete : IfNone found (NoneBelow old new (suc most))
