-- What is asked of the sources of the first object.
-- Assumes nothing.
use Rattle.growing.specs.World.{World}
use Rattle.clashes.specs.declared.asked.Asked.{Asked}
use Rattle.clashes.specs.Clashes.{FirstSources}

-- the sources of the first object are as asked
abbrev pub SourcesAsked : Asked → World → Type 0
SourcesAsked a = FirstSources a.first a.here a.limits.slot a.limits.from a.limits.least a.limits.most
