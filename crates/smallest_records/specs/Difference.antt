-- 01 "The bench", words of demand 3: which records compare looks for.
-- Assumes nothing.
use Rattle.std.specs.Prelude.{ℕ, List, ◌≡◌}
use Rattle.files.specs.Diagram.{Diagram}
use Rattle.files.specs.Record.{Record}
use Rattle.files.specs.RecordFile.{read_record}
use Rattle.files.specs.Refusal.{accepted}
use Rattle.rules.specs.Judge.{Illegal, Legal}

-- a site record, "one whose file follows this document", legal for old and illegal for new
pub record Gap (old new : Diagram) (file : List ℕ) (r : Record) : Type 0 where
  pub reads : read_record file ≡ accepted r
  pub legal : Legal old r
  pub illegal : Illegal new r
