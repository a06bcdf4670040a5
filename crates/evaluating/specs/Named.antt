-- What a list of entries, from a compiler or not, must have to be run on a diagram: each entry names one of its associations.
-- Assumes nothing.
use Rattle.std.specs.Prelude.{ℕ, ◌<◌, ◌≤◌}
use Rattle.diagrams.specs.declared.Associations.{Associations}
use Rattle.diagrams.specs.declared.StoredDiagram.{StoredDiagram}
use Rattle.entries.specs.declared.Entries.{Entries}
use Rattle.entries.specs.View.{entry_in}

pub record NamedIn (a : Associations) (e : Entries) : Type 0 where
  pub few : e.number ≤ 64
  pub association : (k : ℕ) → k < e.number → (entry_in e k).association < a.count

abbrev pub Named : StoredDiagram → Entries → Type 0
Named d e = NamedIn d.associations e
