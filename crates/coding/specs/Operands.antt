-- Which operands a call has, as the code reads it off its tables.
-- Assumes nothing.
use Rattle.std.specs.Prelude.{◌<◌, ◌≡◌}
use Rattle.coding.specs.CallBytes.{Shape}
use Rattle.coding.specs.declared.Row.{Row}

pub record IsRow (x : Shape) (r : Row) : Type 0 where
  pub bytes : r.bytes ≡ x.bytes
  pub files : r.files ≡ x.files
  pub buffers : r.buffers ≡ x.buffers
  pub few_bytes : r.bytes < 256
  pub few-files : r.files < 256
  pub few-buffers : r.buffers < 256
