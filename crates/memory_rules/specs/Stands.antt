-- A record in memory stands for a record of names, both as files may have them: the diagram and the record are well formed.
-- Assumes nothing.
use Rattle.std.specs.Prelude.{◌≡◌}
use Rattle.files.specs.Diagram.{Diagram}
use Rattle.files.specs.Record.{Record, object_count}
use Rattle.files.specs.WellFormedDiagram.{WfDiagram}
use Rattle.files.specs.WellFormedRecord.{WfRecord}
use Rattle.records.specs.Represents.{Represents}
use Rattle.records.specs.declared.MemoryRecord.{MemoryRecord}

pub record Stands (d : Diagram) (r : Record) (m : MemoryRecord) : Type 0 where
  pub wf-diagram : WfDiagram d
  pub wf-record : WfRecord r
  pub count : m.count ≡ object_count r
  pub represents : Represents d r m
