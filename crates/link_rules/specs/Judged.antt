-- Where the tables are those of a diagram and of a record in memory, and what a test says there.
-- Assumes nothing.
use Rattle.std.specs.Prelude.{ℕ, ◌≤◌, List, ◌≡◌}
use Rattle.files.specs.Diagram.{Diagram}
use Rattle.files.specs.WellFormedDiagram.{WfDiagram}
use Rattle.diagrams.specs.declared.Associations.{Associations}
use Rattle.diagrams.specs.View.{associations_of}
use Rattle.records.specs.declared.MemoryRecord.{MemoryRecord}
use Rattle.laws.specs.Connective.{unless}
use Rattle.rules.specs.Site.{Site}
use Rattle.rules.specs.LinkRules.{rule6, rule7, rule8}
use Rattle.rules.specs.WholeRule.{rule9}
use Rattle.memory_rules.specs.SiteIn.{site_in}
use Rattle.tables.specs.Tables.{Instances, RoleSlots}
use Rattle.link_rules.specs.declared.Links.{Links}

pub record Judged (d : Diagram) (m : MemoryRecord) (a : Associations) (links masks slots : List ℕ) (n : ℕ) : Type 0 where
  pub wf : WfDiagram d
  pub associations : d.associations ≡ associations_of a
  pub links-are : links ≡ m.links
  pub instances : Instances d m masks
  pub roles : RoleSlots d slots
  pub count : n ≡ m.count
  pub few : n ≤ 8

-- what a definition by the tables says of those that the code holds
abbrev pub by_tables : {A : Type 0} → (Associations → List ℕ → List ℕ → List ℕ → ℕ → A) → Links → A
by_tables f v = f v.associations.now v.links.now v.tables.now.masks v.tables.now.slots v.count

abbrev pub JudgedBy : Diagram → MemoryRecord → Links → Type 0
JudgedBy d m v = Judged d m v.associations.now v.links.now v.tables.now.masks v.tables.now.slots v.count

-- r is what the rule says, for every diagram and record that the tables belong to
abbrev pub Says : {A : Type 0} → (Diagram → Site → A) → Links → A → Type 0
Says rule v r = (d : Diagram) (m : MemoryRecord) → JudgedBy d m v → r ≡ rule d (site_in d m)

-- the lowest of rules 6 to 9 that is broken, or 0
abbrev pub lowest_of_links : Diagram → Site → ℕ
lowest_of_links d x = unless (rule6 d x) 6 (unless (rule7 d x) 7 (unless (rule8 d x) 8 (unless (rule9 d x) 9 0)))
