-- The lowest rule that a record in memory breaks. A value of an attribute that the diagram lacks breaks rule 3, a link of a role
-- that it lacks rule 5; every other rule is the definition's on the memory record's site.
-- Assumes nothing.
use Rattle.std.specs.Prelude.{ℕ, Bool, not}
use Rattle.laws.specs.Connective.{both, unless}
use Rattle.files.specs.Diagram.{Diagram}
use Rattle.records.specs.declared.MemoryRecord.{MemoryRecord}
use Rattle.rules.specs.LinkRules.{rule5, rule6, rule7, rule8}
use Rattle.rules.specs.TypeRules.{rule1, rule2}
use Rattle.rules.specs.ValueRules.{rule3, rule4}
use Rattle.rules.specs.WholeRule.{rule9}
use Rattle.memory_rules.specs.SiteIn.{site_in}

unfoldable pub rule3_in : Diagram → MemoryRecord → Bool
rule3_in d m = both (not m.strays.values) (rule3 d (site_in d m))

unfoldable pub rule5_in : Diagram → MemoryRecord → Bool
rule5_in d m = both (not m.strays.links) (rule5 d (site_in d m))

unfoldable pub lowest_in : Diagram → MemoryRecord → ℕ
lowest_in d m =
    unless (rule1 d (site_in d m)) 1
    (unless (rule2 d (site_in d m)) 2
    (unless (rule3_in d m) 3
    (unless (rule4 d (site_in d m)) 4
    (unless (rule5_in d m) 5
    (unless (rule6 d (site_in d m)) 6
    (unless (rule7 d (site_in d m)) 7
    (unless (rule8 d (site_in d m)) 8
    (unless (rule9 d (site_in d m)) 9 0))))))))
