-- A record in memory that stands for a record of names has its links between its objects and in slots that are their roles' own. If
-- that record is legal, the types of its objects are known and the rules hold.
-- Assumes nothing.
use Prim.Native.Nat.{◌<◌, ◌≤◌, ℕ}
use native.Mathlib.Omega.{arith}
use mathlib.Core.Bool.{true}
use mathlib.Core.Path.{◌∙◌, ◌≡◌, sym}
use lib.ListN.{length}
use borrow.Author.Tests.{eqb-true}
use Rattle.laws.proofs.BoundedLaws.{any_at}
use Rattle.laws.proofs.ConnectiveLaws.{both_left, both_right}
use Rattle.files.specs.Diagram.{Diagram}
use Rattle.files.specs.Membership.{has_link}
use Rattle.files.specs.Record.{Record, link_at, object_count}
use Rattle.records.specs.declared.MemoryRecord.{MemoryRecord}
use Rattle.records.specs.Represents.{link_bit}
use Rattle.records.specs.Slots.{own_role, role_name}
use Rattle.records.specs.Written.{link_in}
use Rattle.rules.specs.Judge.{Legal}
use Rattle.memory_rules.specs.SiteIn.{site_in}
use Rattle.memory_rules.specs.Stands.{Stands}
use Rattle.type_tables.proofs.PassedLaws.{passed, type-known}
use Rattle.rulings.specs.Ruled.{Ruled}
use Rattle.rulings.specs.Shaped.{Shaped, kind_in}

module _ (old : Diagram) (r : Record) (m : MemoryRecord) (h : Stands old r m) where
  few : m.count ≤ 8
  few = let objects : object_count r ≤ 8 = h.wf-record.few in let count : m.count ≡ object_count r = h.count in omega arith

  inside : (o s p : ℕ) → o < 8 → s < 32 → p < 8 → link_in m o s p ≡ true → (o < m.count) × (p < m.count)
  unfolding link_bit has_link
  inside o s p b l c e =
      let has : has_link r o (role_name old s) p ≡ true = both_right _ _ (sym (h.represents.links o s p b l c) ∙ e) in
      let i = any_at _ (length r.links) has in
      let from-below : (link_at r i.0).from < object_count r = (h.wf-record.link i.0 i.1).from-below in
      let to_below : (link_at r i.0).to < object_count r = (h.wf-record.link i.0 i.1).to_below in
      let from : (link_at r i.0).from ≡ o = eqb-true _ _ (both_left _ _ i.2) in
      let to : (link_at r i.0).to ≡ p = eqb-true _ _ (both_right _ _ (both_right _ _ i.2)) in
      let count : m.count ≡ object_count r = h.count in
      (omega arith, omega arith)

  own : (o s p : ℕ) → o < m.count → s < 32 → p < 8 → link_in m o s p ≡ true → own_role old s ≡ true
  unfolding link_bit
  own o s p b l c e = let f = few in both_left _ _ (sym (h.represents.links o s p (omega arith) l c) ∙ e)

  pub stands-shaped : ((o : ℕ) → o < m.count → kind_in m o < length old.types) → Shaped old m
  stands-shaped known = record { few = few; known = known; inside = inside; own = own }

  pub legal-shaped : Legal old r → Shaped old m
  legal-shaped legal = stands-shaped (type-known h legal)

  pub legal-ruled : Legal old r → Ruled old (site_in old m)
  legal-ruled legal =
      let k = passed h legal in
      record { second = k.second; fifth = k.fifth; sixth = k.sixth; seventh = k.seventh; eighth = k.eighth; ninth = k.ninth }
