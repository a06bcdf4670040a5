-- What lines ask by association j.
-- Assumes nothing.
use Rattle.std.specs.Prelude.{ℕ, get_or}
use Rattle.worlds.specs.declared.Column.{Column}
use Rattle.worlds.specs.declared.Lines.{Lines}
use Rattle.worlds.specs.declared.Mirror.{Mirror}
use Rattle.worlds.specs.declared.Whole.{Whole}

abbrev pub zero_column : Column
zero_column = record { slot = 0; from = 0; to = 0; low = 0; high = 0 }

abbrev pub zero_mirror : Mirror
zero_mirror = record { right = 0; left = 0; from = 0; to = 0 }

abbrev pub zero_whole : Whole
zero_whole = record { slot = 0; from = 0; to = 0 }

abbrev pub column_at : Lines → ℕ → Column
column_at x j = get_or x.columns j zero_column

abbrev pub mirror_at : Lines → ℕ → Mirror
mirror_at x j = get_or x.mirrors j zero_mirror

abbrev pub whole_at : Lines → ℕ → Whole
whole_at x j = get_or x.wholes j zero_whole
