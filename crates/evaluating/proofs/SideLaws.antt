-- What the rules on tables say of an association, with its number as the code has it.
-- Assumes nothing.
use Prim.Native.Nat.{ℕ, ◌<◌}
use mathlib.Core.Bool.{Bool}
use mathlib.Core.Path.{◌≡◌, ap, ◌∙◌}
use Rattle.std.proofs.lemmas.Bool.Decides.{nat_tests}
use Rattle.files.specs.Diagram.{Diagram, Limits, association_at}
use Rattle.records.specs.declared.MemoryRecord.{MemoryRecord}
use Rattle.rules.specs.Arrow.{Side}
use Rattle.rules.specs.LinkRules.{mirrored}
use Rattle.rules.specs.Evaluate.{targets_hold, sources_hold, one_whole}
use Rattle.memory_rules.specs.SiteIn.{site_in}
use Rattle.link_rules.specs.LinksIn.{targets_in, sources_in, mirrored_in}
use Rattle.link_rules.specs.WholesIn.{one_whole_in}
use Rattle.link_rules.specs.Judged.{JudgedBy, by_tables}
use Rattle.link_rules.specs.declared.Links.{Links}
use Rattle.link_rules.proofs.JudgedLaws.{targets-side, sources-side, mirrored-at, one-whole-at}

module _ {d : Diagram} {m : MemoryRecord} (v : Links) (j : JudgedBy d m v) (i : ℕ) (l : i < v.associations.now.count) (k : ℕ) (e : k ≡ i) {r : Bool} where
  pub targets_of : (s : Side) (limits : Limits) → r ≡ by_tables targets_in v s k limits → r ≡ targets_hold d (site_in d m) (association_at d i) s limits
  targets_of s limits f = f ∙ ap (λ (k : ℕ). by_tables targets_in v s k limits) e ∙ targets-side j s limits i l

  pub sources-of : (s : Side) (limits : Limits) → r ≡ by_tables sources_in v s k limits → r ≡ sources_hold d (site_in d m) (association_at d i) s limits
  sources-of s limits f = f ∙ ap (λ (k : ℕ). by_tables sources_in v s k limits) e ∙ sources-side j s limits i l

  pub mirror-of : r ≡ by_tables mirrored_in v k → r ≡ mirrored d (site_in d m) (association_at d i)
  mirror-of f = f ∙ ap (by_tables mirrored_in v) e ∙ mirrored-at j i l

  pub whole_of : r ≡ by_tables one_whole_in v k → r ≡ one_whole d (site_in d m) (association_at d i)
  whole_of f = f ∙ ap (by_tables one_whole_in v) e ∙ one-whole-at j i l

pub ruleset side_laws = (targets_of, sources-of, mirror-of, whole_of, nat_tests)
