-- A record in memory that has an index for everything, and keeps nothing beside what is written, stands for the record that is
-- written of it.
-- Assumes nothing.
use Prim.Native.Nat.{◌*◌, ◌<◌, ℕ}
use native.Mathlib.Omega.{arith}
use mathlib.Core.Bool.{false, false≢true}
use mathlib.Core.List.{[]}
use mathlib.Core.Path.{◌∙◌, ◌≡◌, ap, subst, sym}
use lib.Dec.{eqb}
use lib.ListN.{get_or, length}
use borrow.Author.Tests.{eqb-true}
use Rattle.laws.proofs.BoundedLaws.{any_at}
use Rattle.laws.proofs.ConnectiveLaws.{and_left, and_right, same_test}
use Rattle.laws.proofs.PickedLaws.{any-picked}
use Rattle.files.specs.Diagram.{Diagram}
use Rattle.files.specs.Record.{object_count, object_type}
use Rattle.files.specs.WellFormedDiagram.{WfDiagram}
use Rattle.records.specs.Represents.{stray_link, stray_value}
use Rattle.records.specs.Slots.{attribute_slot, role_count, role_slot, type_index}
use Rattle.records.specs.Written.{Within, link_is, link_on, record_of, value_is, value_on}
use Rattle.records.specs.declared.MemoryRecord.{MemoryRecord}
use Rattle.records.proofs.WrittenLaws.{written_count, written-object}
use Rattle.records.proofs.SlotLaws.{index_of}
use Rattle.writing.proofs.WrittenLaws.{written-wf}
use Rattle.memory_rules.specs.Stands.{Stands}
use Rattle.standing.specs.Clean.{Clean}
use Rattle.standing.proofs.LinkLaws.{link-roles, links-written}
use Rattle.standing.proofs.ValueLaws.{value-attributes, values-written}

module _ (d : Diagram) (m : MemoryRecord) (wf : WfDiagram d) (inside : Within d m) (clean : Clean d m) where
  type-written : (o : ℕ) → o < object_count (record_of d m) → get_or m.types o 0 ≡ type_index d (object_type (record_of d m) o)
  type-written o l =
      let below : o < m.count = subst (λ (n : ℕ). o < n) (written_count d m) l in
      sym (index_of d wf (get_or m.types o 0) (inside.types o below)) ∙ ap (type_index d) (sym (written-object d m o below))

  no_value : stray_value d (record_of d m) ≡ false
  unfolding stray_value record_of
  no_value =
      any-picked (λ v. eqb (attribute_slot d v.attribute) (length d.attributes)) (value_on d m) (value_is d m) (record { object = 0; attribute = []; value_type = []; constant = [] }) (m.count * 32)
      ∙ same_test _ _ (λ e.
      let x = any_at _ (m.count * 32) e in
      let there : attribute_slot d (value_is d m x.0).attribute < length d.attributes =
      value-attributes d m wf inside clean (written-wf d m wf inside) x.0 (and_left (value_on d m x.0) (eqb (attribute_slot d (value_is d m x.0).attribute) (length d.attributes)) x.2) in
      let past : attribute_slot d (value_is d m x.0).attribute ≡ length d.attributes =
      eqb-true _ _ (and_right (value_on d m x.0) (eqb (attribute_slot d (value_is d m x.0).attribute) (length d.attributes)) x.2) in
      absurd (omega arith)) (λ e. absurd (false≢true e))

  no-link : stray_link d (record_of d m) ≡ false
  unfolding stray_link record_of
  no-link =
      any-picked (λ k. eqb (role_slot d k.role) (role_count d)) (link_on d m) (link_is d) (record { from = 0; role = []; to = 0 }) (m.count * 256)
      ∙ same_test _ _ (λ e.
      let x = any_at _ (m.count * 256) e in
      let there : role_slot d (link_is d x.0).role < role_count d =
      link-roles d m wf inside clean x.0 (and_left (link_on d m x.0) (eqb (role_slot d (link_is d x.0).role) (role_count d)) x.2) in
      let past : role_slot d (link_is d x.0).role ≡ role_count d = eqb-true _ _ (and_right (link_on d m x.0) (eqb (role_slot d (link_is d x.0).role) (role_count d)) x.2) in
      absurd (omega arith)) (λ e. absurd (false≢true e))

  pub written_stands : Stands d (record_of d m) m
  written_stands = record {
    wf-diagram = wf;
    wf-record = written-wf d m wf inside;
    count = sym (written_count d m);
    represents = record {
      types = type-written;
      values = values-written d m wf inside clean (written-wf d m wf inside);
      links = links-written d m wf inside clean;
      stray-values = clean.no-stray-values ∙ sym no_value;
      stray-links = clean.no-stray-links ∙ sym no-link;
    };
  }
