-- The rules that are about types and links: 2 and 5 to 9.
-- Assumes nothing.
use Rattle.std.specs.Prelude.{true, ◌≡◌}
use Rattle.files.specs.Diagram.{Diagram}
use Rattle.rules.specs.LinkRules.{rule5, rule6, rule7, rule8}
use Rattle.rules.specs.Site.{Site}
use Rattle.rules.specs.TypeRules.{rule2}
use Rattle.rules.specs.WholeRule.{rule9}

pub record Ruled (d : Diagram) (x : Site) : Type 0 where
  pub second : rule2 d x ≡ true
  pub fifth : rule5 d x ≡ true
  pub sixth : rule6 d x ≡ true
  pub seventh : rule7 d x ≡ true
  pub eighth : rule8 d x ≡ true
  pub ninth : rule9 d x ≡ true
