-- What the compiler gives: the entries of a diagram, and their bytes.
-- Assumes nothing.
use Rattle.std.specs.Prelude.{ℕ, ◌*◌, ◌≤◌, List, ◌≡◌, length, replicate}
use Rattle.laws.specs.Lists.{joined, over}
use Rattle.diagrams.specs.View.{association_in, diagram_of}
use Rattle.diagrams.specs.declared.Associations.{Associations}
use Rattle.diagrams.specs.declared.StoredDiagram.{StoredDiagram}
use Rattle.rules.specs.Compile.{Entry, bare, compile, compiled_bytes, entries_of, entry_bytes}
use Rattle.entries.specs.declared.Entries.{Entries}
use Rattle.compiling.specs.declared.Compiled.{Compiled}
use Rattle.entries.specs.View.{entries_in, entry_in}

-- the entries of the first n associations
unfoldable pub entries_to : Associations → ℕ → List Entry
entries_to a n = joined (λ i. entries_of i (association_in a i)) n

-- after n associations
pub record Gathered (a : Associations) (n : ℕ) (r : Entries) : Type 0 where
  pub entries : entries_in r ≡ entries_to a n
  pub most : r.number ≤ n * 4
  pub rest : (k : ℕ) → r.number ≤ k → entry_in r k ≡ bare 0 0

-- 01: "at most 64"; 02: "the zero ones past the number"
pub record Compiles (d : StoredDiagram) (r : Entries) : Type 0 where
  pub entries : entries_in r ≡ compile (diagram_of d)
  pub few : r.number ≤ 64
  pub rest : (k : ℕ) → r.number ≤ k → entry_in r k ≡ bare 0 0

-- the bytes of the first n entries
unfoldable pub bytes_to : Entries → ℕ → List ℕ
bytes_to e n = joined (λ i. entry_bytes (entry_in e i)) n

-- a list of zeros with these at its front
unfoldable pub written : Entries → ℕ → List ℕ
written e n = over (bytes_to e n) (replicate 448 0)

-- "the records and their number"
pub record Gives (d : StoredDiagram) (r : Compiled) : Type 0 where
  pub number : r.number ≡ length (compile (diagram_of d))
  pub list : r.list ≡ compiled_bytes (diagram_of d)
