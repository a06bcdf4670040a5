-- What judge and evaluate say of a record in memory is what they say of the record of names that it stands for; rule by rule,
-- and for each association and each compiled record.
-- Assumes nothing.
use mathlib.Core.List.{List}
use mathlib.Core.Path.{◌≡◌}
use Rattle.files.specs.Diagram.{Diagram}
use Rattle.files.specs.Record.{Record}
use Rattle.records.specs.declared.MemoryRecord.{MemoryRecord}
use Rattle.rules.specs.Compile.{Entry, compile}
use Rattle.rules.specs.Evaluate.{evaluate, first_failing}
use Rattle.rules.specs.Judge.{judge, lowest_broken}
use Rattle.rules.specs.LinkRules.{rule6, rule7, rule8}
use Rattle.rules.specs.Site.{site_of}
use Rattle.rules.specs.TypeRules.{rule1, rule2}
use Rattle.rules.specs.WholeRule.{rule9}
use Rattle.memory_rules.specs.JudgeIn.{lowest_in}
use Rattle.memory_rules.specs.SiteIn.{site_in}
use Rattle.memory_rules.specs.Stands.{Stands}
use Rattle.memory_rules.proofs.AgreeLaws.{first_failing-agrees, rule1-agrees, rule2-agrees, rule6-agrees, rule7-agrees, rule8-agrees, rule9-agrees}
use Rattle.memory_rules.proofs.LinkLaws.{rule5-in}
use Rattle.memory_rules.proofs.SiteInLaws.{agrees}
use Rattle.memory_rules.proofs.ValueLaws.{rule3-in, rule4-in}

module _ (d : Diagram) (r : Record) (m : MemoryRecord) (h : Stands d r m) where
  -- ---- the rules that ask for names of the diagram alone

  pub rule1-in : rule1 d (site_in d m) ≡ rule1 d (site_of r)
  rule1-in = rule1-agrees d (site_in d m) (site_of r) (agrees d r m h)

  pub rule2-in : rule2 d (site_in d m) ≡ rule2 d (site_of r)
  rule2-in = rule2-agrees d (site_in d m) (site_of r) (agrees d r m h)

  pub rule6-in : rule6 d (site_in d m) ≡ rule6 d (site_of r)
  rule6-in = rule6-agrees d (site_in d m) (site_of r) (agrees d r m h)

  pub rule7-in : rule7 d (site_in d m) ≡ rule7 d (site_of r)
  rule7-in = rule7-agrees d (site_in d m) (site_of r) (agrees d r m h)

  pub rule8-in : rule8 d (site_in d m) ≡ rule8 d (site_of r)
  rule8-in = rule8-agrees d (site_in d m) (site_of r) (agrees d r m h)

  pub rule9-in : rule9 d (site_in d m) ≡ rule9 d (site_of r)
  rule9-in = rule9-agrees d (site_in d m) (site_of r) (agrees d r m h)

  -- ---- judge and evaluate

  pub judge-in : lowest_in d m ≡ judge d r
  unfolding lowest_in judge lowest_broken
  judge-in = rw (rule1-in, rule2-in, rule3-in d r m h, rule4-in d r m h, rule5-in d r m h, rule6-in, rule7-in, rule8-in, rule9-in)

  -- for every list of compiled records
  pub entries-in : (es : List Entry) → first_failing d (site_in d m) es ≡ first_failing d (site_of r) es
  entries-in = first_failing-agrees d (site_in d m) (site_of r) (agrees d r m h)

  pub evaluate-in : first_failing d (site_in d m) (compile d) ≡ evaluate d r
  unfolding evaluate
  evaluate-in = entries-in (compile d)

-- "The two diagrams meet only through names": a record in memory that stands for the same record of names under another
-- diagram is judged by that diagram as the record is.
pub judged-by-translation : (old new : Diagram) (r : Record) (m n : MemoryRecord) → Stands old r m → Stands new r n → lowest_in new n ≡ judge new r
judged-by-translation old new r m n h k = judge-in new r n k
