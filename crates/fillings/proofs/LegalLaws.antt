-- In a record that is legal for a diagram the type of each object is one of the diagram's, by rule 1.
-- Assumes nothing.
use Prim.Native.Nat.{◌<◌, ℕ}
use lib.ListN.{length}
use Rattle.files.specs.Diagram.{Diagram}
use Rattle.files.specs.Record.{Record, object_count, object_type}
use Rattle.records.specs.Slots.{type_index}
use Rattle.records.proofs.SlotLaws.{index-known}
use Rattle.rules.specs.Instance.{has_type}
use Rattle.rules.specs.Judge.{Legal}
use Rattle.rules.specs.Site.{site_of}
use Rattle.rules.specs.TypeRules.{rule1, rule1_at}
use Rattle.laws.proofs.BoundedLaws.{all-at, any_at}
use Rattle.laws.proofs.ConnectiveLaws.{both_left}
use Rattle.rules.proofs.JudgeLaws.{Keeps, legal-keeps}

module _ (d : Diagram) (r : Record) (legal : Legal d r) where
  keeps : Keeps d (site_of r)
  keeps = legal-keeps d r legal

  pub known-type : (o : ℕ) → o < object_count r → type_index d (object_type r o) < length d.types
  unfolding rule1 rule1_at has_type site_of
  known-type o l =
      let t = any_at _ (length d.types) (all-at (rule1_at d (site_of r)) (object_count r) keeps.first o l) in
      index-known d (object_type r o) t.0 t.1 (both_left _ _ t.2)
