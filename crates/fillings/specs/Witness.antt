-- What a compare looks for: a record in memory that old allows and new forbids.
-- Assumes nothing.
use Rattle.files.specs.Diagram.{Diagram}
use Rattle.records.specs.declared.MemoryRecord.{MemoryRecord}
use Rattle.records.specs.Written.{Within, record_of}
use Rattle.rules.specs.Judge.{Illegal, Legal}

-- what m says, written by old's names, is legal for old and illegal for new
pub record Witness (old new : Diagram) (m : MemoryRecord) : Type 0 where
  pub within : Within old m
  pub legal : Legal old (record_of old m)
  pub illegal : Illegal new (record_of old m)
