-- From records that have a file to the files: every file of a difference is that of a well-formed record, and what a witness in
-- memory stands for has a file, so "fewest objects" and "none" say the same of both. A record has at most 8 objects, so a larger
-- bound asks no more.
-- Assumes nothing.
use Prim.Native.Nat.{◌≤◌, min, ℕ}
use native.Mathlib.Omega.{arith}
use Rattle.std.specs.Prelude.{None, Option, Some}
use mathlib.Core.Path.{◌≡◌}
use Rattle.files.specs.Diagram.{Diagram}
use Rattle.files.specs.Record.{object_count}
use Rattle.files.specs.RecordBytes.{write_record}
use Rattle.files.specs.WellFormedDiagram.{WfDiagram}
use Rattle.files.proofs.RecordWellFormed.{read-wf}
use Rattle.records.specs.declared.MemoryRecord.{MemoryRecord}
use Rattle.records.specs.Written.{record_of}
use Rattle.records.proofs.WrittenLaws.{written_count}
use Rattle.writing.proofs.WrittenLaws.{written-read-back}
use Rattle.fillings.specs.Witness.{Witness}
use Rattle.smallest_records.specs.Difference.{Gap}
use Rattle.comparing.specs.Compared.{Compares, found_in}
use Rattle.comparing.specs.Sought.{Sought}

pub few-objects : (bound most : ℕ) → most ≡ min bound 8 → most ≤ 8
few-objects bound most e = omega arith

module _ {old new : Diagram} where
  -- a witness in memory, written, is a difference
  gap_of : WfDiagram old → (m : MemoryRecord) → Witness old new m → Gap old new (write_record (record_of old m)) (record_of old m)
  gap_of d m w = record { reads = written-read-back old m d w.within; legal = w.legal; illegal = w.illegal }

  pub compared : {bound most : ℕ} {found : Option MemoryRecord} → WfDiagram old → most ≡ min bound 8 → Sought old new most found → Compares old new bound found
  unfolding found_in
  compared {found = Some m} d e s = record {
    finds =
        let count : object_count (record_of old m) ≡ m.count = written_count old m in
        record {
          bounded = let b = s.bounded in omega arith;
          is = gap_of d m s.sound;
          least = λ file r g. let l = s.least.at_least r (read-wf file r g.reads) g.legal g.illegal in omega arith;
        };
    within = s.sound.within;
  }
  compared {found = None} d e s = record {
    finds = λ file r g.
        let w = read-wf file r g.reads in
        let l = s.complete.at_least r w g.legal g.illegal in
        let k = w.few in
        omega arith;
    within = tt;
  }
