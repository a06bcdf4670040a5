-- The worlds that a search wants.
-- Assumes nothing.
use Rattle.growing.specs.World.{World}
use Rattle.worlds.specs.Asked.{Solution}
use Rattle.worlds.specs.Kept.{sheet_of}
use Rattle.growth.specs.declared.wanted.Wanted.{Wanted}

abbrev pub wanted : Wanted → World → Type 0
wanted s = Solution (sheet_of s.tables.now) s.q.now s.n
