-- What is settled though the choice is free: two records with fewest objects have equally many. And what a chosen record is as a
-- file: its length is within 01's limit.
-- Assumes nothing.
use Prim.Native.Nat.{◌≤◌, ℕ}
use native.Mathlib.Nat.{le_antisymm}
use native.Mathlib.Omega.{arith}
use mathlib.Core.List.{List}
use mathlib.Core.Option.{Option, map, none, some}
use mathlib.Core.Path.{◌≡◌, ap, refl}
use lib.ListN.{length}
use Rattle.files.specs.Record.{Record, object_count}
use Rattle.files.specs.RecordBytes.{write_record}
use Rattle.files.specs.RecordFile.{read_record}
use Rattle.files.specs.Refusal.{accepted}
use Rattle.files.proofs.RecordWellFormed.{read-wf}
use Rattle.files.proofs.SizeLaws.{written-most}
use Rattle.smallest_records.specs.Smallest.{Chooses, Fewest}

module _ (S : List ℕ → Record → Type 0) (bound : ℕ) where
  pub one-count : (x y : Option Record) → Chooses S bound x → Chooses S bound y → map object_count x ≡ map object_count y
  one-count none none f g = refl
  one-count none (some w) f g = let l = f (write_record w) w g.is in let m = g.bounded in absurd (omega arith)
  one-count (some w) none f g = let l = g (write_record w) w f.is in let m = f.bounded in absurd (omega arith)
  one-count (some v) (some w) f g =
      let l = f.least (write_record w) w g.is in let m = g.least (write_record v) v f.is in ap some (le_antisymm l m)

  -- "a witness needs at most 59,300"
  pub chosen-fits : ((file : List ℕ) (r : Record) → S file r → read_record file ≡ accepted r) → (w : Record) → Fewest S bound w → length (write_record w) ≤ 59300
  chosen-fits reads w f = written-most w (read-wf (write_record w) w (reads (write_record w) w f.is))
