-- The one diagram in memory with nothing in it.
-- Assumes nothing.
use Rattle.std.specs.Prelude.{replicate}
use Rattle.diagrams.specs.declared.StoredDiagram.{StoredDiagram}

unfoldable pub empty_diagram : StoredDiagram
empty_diagram = record {
  values = record { count = 0; names = replicate 204 0; sizes = replicate 12 0; constants = replicate 1632 0 };
  types = record { count = 0; kinds = replicate 24 0; names = replicate 408 0; sizes = replicate 24 0; parents = replicate 96 0; sets = replicate 24 0 };
  attributes = record { count = 0; owners = replicate 32 0; names = replicate 544 0; types = replicate 32 0 };
  associations = record {
    count = 0;
    forms = replicate 16 0;
    arrows = replicate 16 0;
    types = replicate 32 0;
    lows = replicate 32 0;
    ups = replicate 32 0;
    roles = replicate 544 0;
  };
}
