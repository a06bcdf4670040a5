-- What the search promises: a witness, or that there is none.
-- Assumes nothing.
use Rattle.std.specs.Prelude.{ℕ, IfNone, IfSome, Option, ◌≡◌}
use Rattle.files.specs.Diagram.{Diagram}
use Rattle.files.specs.Record.{Record, object_count}
use Rattle.files.specs.WellFormedRecord.{WfRecord}
use Rattle.records.specs.declared.MemoryRecord.{MemoryRecord}
use Rattle.rules.specs.Judge.{Illegal, Legal}
use Rattle.fillings.specs.Witness.{Witness}

-- a site record of n objects that is legal for old and illegal for new; none is found where there is none
pub record Level (old new : Diagram) (n : ℕ) (found : Option MemoryRecord) : Type 0 where
  pub count : IfSome found (λ m. m.count ≡ n)
  pub sound : IfSome found (Witness old new)
  pub complete : IfNone found ((r : Record) → WfRecord r → object_count r ≡ n → Legal old r → Illegal new r → ⊥)
