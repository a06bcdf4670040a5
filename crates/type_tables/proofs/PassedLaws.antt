-- A legal record keeps each rule in memory, and so the type at each object's place is a type of the diagram.
-- Assumes nothing.
use Prim.Native.Nat.{◌<◌, ℕ}
use mathlib.Core.Bool.{true}
use mathlib.Core.Path.{◌∙◌, ◌≡◌, sym}
use lib.Dec.{ltb}
use lib.ListN.{get_or, length}
use borrow.Author.Tests.{ltb-true}
use Rattle.laws.specs.Connective.{both}
use Rattle.laws.proofs.BoundedLaws.{all-at}
use Rattle.laws.proofs.ConnectiveLaws.{both_left, both_right, unless-passed}
use Rattle.files.specs.Diagram.{Diagram, is_concrete, type_at}
use Rattle.files.specs.Record.{Record}
use Rattle.records.specs.declared.MemoryRecord.{MemoryRecord}
use Rattle.rules.specs.Judge.{Legal}
use Rattle.rules.specs.TypeRules.{rule1, rule1_at}
use Rattle.rules.proofs.JudgeLaws.{Keeps}
use Rattle.memory_rules.specs.JudgeIn.{lowest_in, rule3_in, rule5_in}
use Rattle.memory_rules.specs.SiteIn.{site_in}
use Rattle.memory_rules.specs.Stands.{Stands}
use Rattle.memory_rules.proofs.JudgeInLaws.{judge-in}
use Rattle.tables.proofs.OwnLaws.{any-type}

module _ {d : Diagram} {r : Record} {m : MemoryRecord} (h : Stands d r m) (legal : Legal d r) where
  pub passed : Keeps d (site_in d m)
  unfolding lowest_in rule3_in rule5_in
  passed =
      let p1 = unless-passed _ 0 _ (judge-in d r m h ∙ legal) in
      let p2 = unless-passed _ 1 _ p1.1 in
      let p3 = unless-passed _ 2 _ p2.1 in
      let p4 = unless-passed _ 3 _ p3.1 in
      let p5 = unless-passed _ 4 _ p4.1 in
      let p6 = unless-passed _ 5 _ p5.1 in
      let p7 = unless-passed _ 6 _ p6.1 in
      let p8 = unless-passed _ 7 _ p7.1 in
      let p9 = unless-passed _ 8 _ p8.1 in
      record { first = p1.0; second = p2.0; third = both_right _ _ p3.0; fourth = p4.0; fifth = both_right _ _ p5.0; sixth = p6.0; seventh = p7.0; eighth = p8.0; ninth = p9.0 }

  -- rule 1, of the type at the place of object o
  own-concrete : (o : ℕ) → o < m.count → both (ltb (get_or m.types o 0) (length d.types)) (is_concrete (type_at d (get_or m.types o 0))) ≡ true
  unfolding rule1 rule1_at site_in
  own-concrete o l = sym (any-type d h.wf-diagram m (λ i. is_concrete (type_at d i)) o) ∙ all-at (rule1_at d (site_in d m)) m.count passed.first o l

  pub type-known : (o : ℕ) → o < m.count → get_or m.types o 0 < length d.types
  type-known o l = ltb-true _ _ (both_left _ _ (own-concrete o l))

  pub type-concrete : (o : ℕ) → o < m.count → is_concrete (type_at d (get_or m.types o 0)) ≡ true
  type-concrete o l = both_right _ _ (own-concrete o l)
