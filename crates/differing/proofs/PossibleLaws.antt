-- The type of an object of a legal record is one that objects can have: where something is due, rule 3 gives it a value, and rule 4 a
-- value type.
-- Assumes nothing.
use Prim.Native.Nat.{◌+◌, ◌/◌, ◌<◌, ℕ}
use native.Mathlib.Omega.{arith}
use mathlib.Core.Bool.{not, true}
use mathlib.Core.Logic.{◌≢◌}
use mathlib.Core.Path.{◌∙◌, ◌≡◌, ap, subst, sym}
use lib.Dec.{eqb}
use lib.ListN.{get_or, length}
use borrow.Author.Tests.{eqb-true, ne_eqb}
use Rattle.laws.proofs.BoundedLaws.{all_of, any_at}
use Rattle.laws.proofs.ConnectiveLaws.{both_left, both_of, both_right}
use Rattle.files.specs.Diagram.{Diagram, attribute_at, type_at}
use Rattle.files.specs.Membership.{has_value}
use Rattle.files.specs.Name.{Name, key}
use Rattle.files.specs.Record.{Record, object_count, object_type, value_at}
use Rattle.files.proofs.NameLaws.{same_key}
use Rattle.records.specs.Slots.{attribute_slot, type_index}
use Rattle.records.specs.declared.MemoryRecord.{MemoryRecord}
use Rattle.records.proofs.SlotLaws.{index-name}
use Rattle.rules.specs.Judge.{Legal}
use Rattle.memory_rules.specs.Stands.{Stands}
use Rattle.type_tables.specs.Due.{due}
use Rattle.type_tables.proofs.PassedLaws.{type-concrete, type-known}
use Rattle.worlds.specs.Tables.{UsableTypes, possible}
use Rattle.laws.specs.Bits.{bit}
use borrow.Author.Tests.{lt-ltb}
use Rattle.type_values.specs.Named.{due_named}
use Rattle.type_values.proofs.KeptLaws.{due-own}
use Rattle.type_values.proofs.LegalLaws.{has-declared, value-due}
use Rattle.type_values.proofs.NamedLaws.{named-alike, named-alike-type, named-declared, named-own}

module _ (old : Diagram) (r : Record) (m : MemoryRecord) (h : Stands old r m) (legal : Legal old r) where
  -- the type of object o, and its name
  abbrev kind_of : ℕ → ℕ
  kind_of o = get_or m.types o 0

  kind-name : (o : ℕ) → o < m.count → key (type_at old (kind_of o)).name ≡ key (object_type r o)
  kind-name o l =
      let at : kind_of o ≡ type_index old (object_type r o) = h.represents.types o (subst (λ (n : ℕ). o < n) h.count l) in
      let there : type_index old (object_type r o) < length old.types = subst (λ (n : ℕ). n < length old.types) at (type-known h legal o l) in
      ap (λ (i : ℕ). key (type_at old i).name) at ∙ index-name old (object_type r o) there

  due-small : (o s : ℕ) → o < m.count → due old (kind_of o) s ≢ 0 → due old (kind_of o) s ≢ 255
  unfolding has_value
  due-small o s l n =
      let below : o < object_count r = subst (λ (n : ℕ). o < n) h.count l in
      let w : Name = (attribute_at old s).name in
      let own : attribute_slot old w ≡ s = due-own old h.wf-diagram (kind_of o) s n in
      let named : due_named old (object_type r o) w ≡ due old (kind_of o) s =
      named-alike-type old _ _ w (sym (kind-name o l)) ∙ named-own old h.wf-diagram (kind_of o) (type-known h legal o l) w ∙ ap (due old (kind_of o)) own in
      let has : has_value r o w ≡ true =
      has-declared old r legal o w below ∙ named-declared old h.wf-diagram (object_type r o) w ∙ ap (λ (e : ℕ). not (eqb e 0)) named ∙ ap not (ne_eqb _ 0 n) in
      let i = any_at _ (length r.values) has in
      let object : (value_at r i.0).object ≡ o = eqb-true _ _ (both_left _ _ i.2) in
      let attribute : key (value_at r i.0).attribute ≡ key w = same_key _ _ (both_right _ _ i.2) in
      let k = value-due old h.wf-diagram r h.wf-record legal i.0 i.1 in
      let small : k.0 < 96 = k.1.small in
      let is : due old (kind_of o) s ≡ 1 + k.0 / 8 =
      sym named ∙ ap (λ (p : ℕ). due_named old (object_type r p) w) (sym object) ∙ named-alike old (object_type r (value_at r i.0).object) _ _ (sym attribute) ∙ k.2 in
      λ e. omega arith

  kind-possible : (o : ℕ) → o < m.count → possible old (kind_of o) ≡ true
  unfolding possible
  kind-possible o l = all_of _ 32 (λ s k. ap not (ne_eqb (due old (kind_of o) s) 255 (apart s)))
    where
      apart : (s : ℕ) → due old (kind_of o) s ≢ 255
      apart s e =
          let some : due old (kind_of o) s ≢ 0 = λ z. omega arith in
          due-small o s l some e

  pub legal-usable : (usable : ℕ) → UsableTypes old usable → (o : ℕ) → o < m.count → bit (get_or m.types o 0) usable ≡ true
  legal-usable usable is o l =
      is.at (kind_of o) ∙ both_of _ _ (lt-ltb _ _ (type-known h legal o l)) (both_of _ _ (type-concrete h legal o l) (kind-possible o l))
