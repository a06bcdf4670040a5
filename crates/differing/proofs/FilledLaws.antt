-- A record that is filled with values for the types and links of an allowed world, where that world does not keep the tables of new, is a
-- witness.
-- Assumes nothing.
use Prim.Native.Nat.{◌<◌, ◌≤◌, ℕ}
use native.Mathlib.Decide.{dec_lt}
use native.Mathlib.Omega.{arith}
use mathlib.Core.Bool.{Bool, cond, false, not, true}
use mathlib.Core.List.{List}
use mathlib.Core.Logic.{◌≢◌, ⊎_elim}
use mathlib.Core.Path.{◌∙◌, ◌≡◌, ap, subst, sym}
use lib.Dec.{ltb}
use lib.ListN.{get_or, length}
use borrow.Author.Tests.{eq-eqb, eqb-true, le-ltb, lt-ltb, ltb-true, ne_eqb}
use Rattle.laws.specs.Connective.{both}
use Rattle.laws.proofs.BoundedLaws.{any_at}
use Rattle.laws.proofs.ConnectiveLaws.{both_left, both_of, both_right, known}
use Rattle.files.specs.Diagram.{Diagram, attribute_at, is_concrete, type_at}
use Rattle.files.specs.WellFormedDiagram.{WfDiagram}
use Rattle.files.proofs.NameLaws.{same_self}
use Rattle.records.specs.Slots.{attribute_slot, own_attribute}
use Rattle.records.specs.Written.{record_of, value_in}
use Rattle.records.specs.declared.MemoryRecord.{MemoryRecord}
use Rattle.records.proofs.SlotLaws.{attribute-known}
use Rattle.fillings.specs.Witness.{Witness}
use Rattle.type_tables.specs.Due.{declares_for, due}
use Rattle.worlds.specs.Kept as worlds
use Rattle.worlds.specs.Kept.{Allowed, Sheet, world_in, world_of}
use Rattle.worlds.specs.Tables.{SheetOf, possible}
use Rattle.worlds.specs.declared.Lines.{Lines}
use Rattle.rulings.specs.Shaped.{kind_in}
use Rattle.type_values.specs.Bad.{bad_by}
use Rattle.type_values.specs.Filled.{Filled, UsableObjects, chosen}
use Rattle.type_values.proofs.BreaksLaws.{filled-breaks}
use Rattle.type_values.proofs.FilledLaws.{filled-due, filled-is-value, filled-rule3-in, filled-rule4}
use Rattle.type_values.proofs.GoodLaws.{KeepsValues}
use Rattle.type_values.proofs.JoinedLaws.{due-declared}
use Rattle.type_values.proofs.KeptLaws.{due-own}
use Rattle.differing.specs.Others.{TablesOf}
use Rattle.differing.proofs.SoundLaws.{ValuesFit, allowed-legal, allowed-witness}

-- something is due in the slots only that are a name's own
due-owned : (d : Diagram) → WfDiagram d → (t s : ℕ) → due d t s ≢ 0 → own_attribute d s ≡ true
unfolding own_attribute declares_for
due-owned d wf t s n =
    let a = any_at _ (length d.attributes) (due-declared d wf t s ∙ ap not (ne_eqb _ 0 n)) in
    let slot : attribute_slot d (attribute_at d a.0).name ≡ s = eqb-true _ _ (both_right _ _ a.2) in
    let below : attribute_slot d (attribute_at d a.0).name < length d.attributes = attribute-known d (attribute_at d a.0).name a.0 a.1 (same_self (attribute_at d a.0).name) in
    both_of _ _ (lt-ltb s (length d.attributes) (omega arith)) (eq-eqb _ _ (due-own d wf t s n))

module _ (old new : Diagram) (wo : WfDiagram old) (wn : WfDiagram new) (x : Sheet) (of : SheetOf old x) (types links : List ℕ) (n : ℕ) (m : MemoryRecord)
    (filled : Filled old new types links n m) (a : Allowed x (world_in n types links)) where
  few : n ≤ 8
  unfolding world_in
  few = a.few

  usable_at : (o : ℕ) → o < n → both (ltb (get_or types o 0) (length old.types)) (both (is_concrete (type_at old (get_or types o 0))) (possible old (get_or types o 0))) ≡ true
  unfolding world_in
  usable_at o l = sym (of.usable.at (get_or types o 0)) ∙ a.usable o l

  pub usable-objects : UsableObjects old types n
  usable-objects = record {
    type-known = λ o l. ltb-true _ _ (both_left _ _ (usable_at o l));
    concrete = λ o l. both_left _ _ (both_right _ _ (usable_at o l));
    may = λ o l. both_right _ _ (both_right _ _ (usable_at o l));
  }

  same-world : world_in n types links ≡ world_of m
  same-world = λ i. world_in (sym filled.count-is i) (sym filled.types_are i) (sym filled.links-are i)

  allowed : Allowed x (world_of m)
  allowed = subst (Allowed x) same-world a

  values-own : (o s : ℕ) → o < 8 → s < 32 → value_in m o s ≢ 0 → (o < m.count) × (own_attribute old s ≡ true)
  values-own o s lo ls some = go (dec_lt o n)
    where
      at : value_in m o s ≡ cond (ltb o n) (chosen old new (due old (get_or types o 0) s)) 0
      at = filled.values-are o s lo ls

      go : Dec (o < n) → (o < m.count) × (own_attribute old s ≡ true)
      go (yes l) =
          let below : o < m.count = subst (λ (k : ℕ). o < k) (sym filled.count-is) l in
          (below, due-owned old wo (get_or m.types o 0) s (filled-due old new wo wn types links n m few filled usable-objects o s below ls some))
      go (no l) = absurd (some (at ∙ ap (λ (b : Bool). cond b (chosen old new (due old (get_or types o 0) s)) 0) (le-ltb o n (omega arith))))

  values-fit : ValuesFit old m
  values-fit = record {
    third = filled-rule3-in old new wo wn types links n m few filled usable-objects;
    fourth = filled-rule4 old new wo wn types links n m few filled usable-objects;
    are-values = filled-is-value old new wo wn types links n m few filled usable-objects;
    own = values-own;
    no-stray-values = filled.stray-values;
    no-stray-links = filled.stray-links;
  }

  pub filled-witness : (bad singles : ℕ) (missing : Bool) (targets lows highs : List ℕ) (y : Lines) → TablesOf old new bad singles missing targets lows highs y
      → (worlds.AllKept bad singles missing targets lows highs y (world_in n types links) → ⊥) → Witness old new m
  filled-witness bad singles missing targets lows highs y tables broken =
      allowed-witness old wo m x of allowed values-fit new wn bad singles missing targets lows highs y tables told
      (λ k. broken (subst (worlds.AllKept bad singles missing targets lows highs y) (sym same-world) k))
    where
      told : KeepsValues new (record_of old m) → (o : ℕ) → o < m.count → bad_by old new (kind_in m o) ≡ false
      told keeps o l = ⊎_elim (λ t. absurd (filled-breaks old new wo wn types links n m few filled usable-objects (allowed-legal old wo m x of allowed values-fit) o l t keeps)) (λ f. f) (known (bad_by old new (kind_in m o)))
