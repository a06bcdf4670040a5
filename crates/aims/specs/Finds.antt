-- What a search finds: an allowed world that does not keep K; where it finds nothing, all keep it.
-- Assumes nothing.
use Rattle.std.specs.Prelude.{Option, is_some}
use Rattle.growing.specs.World.{World}
use Rattle.worlds.specs.declared.Site.{Site}
use Rattle.worlds.specs.Kept.{sheet_of}
use Rattle.worlds.specs.Asked.{Breaks, world_built}
use Rattle.aims.specs.declared.search.Search.{Search}

abbrev pub Finds : Search → (World → Type 0) → Option Site → Type 0
Finds s K found = Breaks (sheet_of s.tables.now) K s.n (is_some found) (world_built s.n found)
