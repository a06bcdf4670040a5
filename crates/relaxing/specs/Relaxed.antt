-- Tables and queries without lower limits, and the first objects of a world alone.
-- Assumes nothing.
use Rattle.std.specs.Prelude.{ℕ, ◌&&◌, ltb, map, replicate}
use Rattle.growing.specs.World.{World}
use Rattle.worlds.specs.Kept.{Sheet, sheet}
use Rattle.worlds.specs.declared.Column.{Column}
use Rattle.worlds.specs.declared.Lines.{Lines}
use Rattle.worlds.specs.declared.Query.{Query}

abbrev pub unforced_column : Column → Column
unforced_column c = record { slot = c.slot; from = c.from; to = c.to; low = 0; high = c.high }

abbrev pub unforced : Lines → Lines
unforced x = record { columns = map unforced_column x.columns; mirrors = x.mirrors; wholes = x.wholes }

abbrev pub freed : Query → Query
freed q = record {
  seeds = q.seeds;
  types = q.types;
  must = q.must;
  shut = q.shut;
  row = record { slot = q.row.slot; low = 0; high = q.row.high };
  column = record { slot = q.column.slot; from = q.column.from; least = 0; most = q.column.most };
  never = q.never;
}

-- the sheet without singletons and without lower limits
abbrev pub relaxed : Sheet → Sheet
relaxed x = sheet x.usable 0 x.targets (replicate 768 0) x.highs (unforced x.lines)

-- the first k objects and the links between them
abbrev pub cut : ℕ → World → World
cut k w = record { size = k; kind = w.kind; link = λ s o p. ltb o k && (ltb p k && w.link s o p) }
