-- Rules 3 and 4 on numbers are the rules: an attribute's name is its slot, and a value's type is its code's.
-- Assumes nothing.
use Prim.Native.Nat.{◌%◌, ◌*◌, ◌+◌, ◌-◌, ◌/◌, ◌<◌, ℕ}
use native.Mathlib.Omega.{arith}
use mathlib.Core.Bool.{Bool, false, not, true}
use mathlib.Core.List.{List}
use mathlib.Core.Logic.{◌≢◌, ⊎_elim}
use mathlib.Core.Path.{◌∙◌, ◌≡◌, ap, ap₂, refl, subst, sym}
use lib.Dec.{eqb, ltb}
use lib.ListN.{get_or, length}
use borrow.Author.Tests.{eqb-false, eqb-true, lt-ltb, ltb-true, not-true}
use Rattle.laws.specs.Bits.{bit}
use Rattle.laws.specs.Bounded.{all, any}
use Rattle.laws.specs.Connective.{both, imp, same}
use Rattle.laws.proofs.BoundedLaws.{all-at, all-ext, all_of, any-ext}
use Rattle.laws.proofs.ConnectiveLaws.{both_left, both_right, imp-of, both-implied, imp-under}
use Rattle.laws.proofs.SearchLaws.{both-no, both_yes}
use Rattle.files.specs.Diagram.{attribute_at, value_type_at}
use Rattle.diagrams.specs.declared.StoredDiagram.{StoredDiagram}
use Rattle.diagrams.specs.View.{diagram_of}
use Rattle.diagrams.specs.Held.{Held}
use Rattle.diagrams.proofs.ViewLaws.{attribute-count}
use Rattle.records.specs.declared.MemoryRecord.{MemoryRecord}
use Rattle.records.specs.Slots.{own_attribute}
use Rattle.records.specs.Written.{value_in}
use Rattle.records.proofs.SlotLaws.{attribute-below, attribute-same}
use Rattle.rules.specs.ValueRules.{belongs, declared, declares, rule3, rule3_at, rule3_for, rule4, rule4_at}
use Rattle.memory_rules.specs.JudgeIn.{rule3_in}
use Rattle.memory_rules.specs.SiteIn.{kept_value, site_in, value_kept, valued_in}
use Rattle.tables.specs.Tables.{AttributeSlots, Coded, Instances}
use Rattle.tables.proofs.TableLaws.{attribute-owner, attribute-type, instances-at}
use Rattle.declarations.specs.Declares.{agrees_at, declares_at}
use Rattle.object_rules.specs.ValuesIn.{due_at, due_for, own_slot, value_fits}
use Rattle.tables.proofs.BelongLaws.{belongs-known, belongs-none}
use Rattle.object_rules.proofs.OwnSlotLaws.{own-attribute}

module _ (d : StoredDiagram) (held : Held d) (m : MemoryRecord) (coded : Coded (diagram_of d) m) (masks : List ℕ) (is : Instances (diagram_of d) m masks) (slots : List ℕ) (at : AttributeSlots (diagram_of d) slots) where
  below : {a : ℕ} → a < d.attributes.count → a < length (diagram_of d).attributes
  below {a} l = subst (λ (n : ℕ). a < n) (sym (attribute-count d)) l

  -- ---- declarations

  declares-is : (o s a : ℕ) → o < 8 → s < d.attributes.count → a < d.attributes.count
      → declares (diagram_of d) (site_in (diagram_of d) m) o a (attribute_at (diagram_of d) s).name ≡ declares_at d.attributes.owners masks slots o (get_or slots s 0) a
  unfolding declares declares_at
  declares-is o s a lo ls la =
      ap₂ both
      (instances-at (diagram_of d) m masks is (attribute_at (diagram_of d) a).owner o (held.wf.attribute a (below la)).owner-known lo
      ∙ ap (λ (t : ℕ). bit o (get_or masks t 0)) (attribute-owner d a la))
      (attribute-same (diagram_of d) a (attribute_at (diagram_of d) s).name (below la) ∙ ap₂ eqb (sym (at.exact a (below la))) (sym (at.exact s (below ls))))

  declared-is : (o s : ℕ) → o < 8 → s < d.attributes.count
      → declared (diagram_of d) (site_in (diagram_of d) m) o (attribute_at (diagram_of d) s).name ≡ any (declares_at d.attributes.owners masks slots o (get_or slots s 0)) d.attributes.count
  unfolding declared
  declared-is o s lo ls =
      ap (any (λ a. declares (diagram_of d) (site_in (diagram_of d) m) o a (attribute_at (diagram_of d) s).name)) (attribute-count d)
      ∙ any-ext _ _ d.attributes.count (λ a la. declares-is o s a lo ls la)

  -- ---- rule 3

  valued-is : (o a : ℕ) → a < d.attributes.count
      → valued_in (diagram_of d) m o (attribute_at (diagram_of d) a).name ≡ not (eqb (get_or m.values (o * 32 + get_or slots a 0) 0) 0)
  unfolding valued_in both
  valued-is o a la =
      rw (lt-ltb _ _ (attribute-below (diagram_of d) a (below la))) (ap (λ (s : ℕ). not (eqb (get_or m.values (o * 32 + s) 0) 0)) (sym (at.exact a (below la))))

  due-is : (o a : ℕ) → o < 8 → a < d.attributes.count
      → rule3_for (diagram_of d) (site_in (diagram_of d) m) o (attribute_at (diagram_of d) a).name ≡ due_at m.values d.attributes.owners masks slots d.attributes.count o a
  unfolding rule3_for due_at site_in
  due-is o a lo la = ap₂ same (valued-is o a la) (declared-is o a lo la)

  -- the names of the values that are kept are among the diagram's
  values-follow : (o : ℕ) → all (λ a. rule3_for (diagram_of d) (site_in (diagram_of d) m) o (attribute_at (diagram_of d) a).name) (length (diagram_of d).attributes) ≡ true
      → (site_in (diagram_of d) m).each_value (λ v. rule3_for (diagram_of d) (site_in (diagram_of d) m) o v.attribute) ≡ true
  unfolding site_in value_kept kept_value own_attribute
  values-follow o e =
      all_of _ (m.count * 32)
      (λ x l.
      imp-of (value_kept (diagram_of d) m x) _
      (λ k.
      let own = both_left (own_attribute (diagram_of d) (x % 32)) _ k in
      all-at _ (length (diagram_of d).attributes) e (x % 32) (ltb-true _ _ (both_left (ltb (x % 32) (length (diagram_of d).attributes)) _ own))))

  due-for : (o : ℕ) → o < 8 → rule3_at (diagram_of d) (site_in (diagram_of d) m) o ≡ due_for m.values d.attributes.owners masks slots d.attributes.count o
  unfolding rule3_at due_for
  due-for o lo =
      both-implied _ _ (values-follow o)
      ∙ ap (all (λ a. rule3_for (diagram_of d) (site_in (diagram_of d) m) o (attribute_at (diagram_of d) a).name)) (attribute-count d)
      ∙ all-ext _ _ d.attributes.count (λ a la. due-is o a lo la)

  rule3-is : rule3 (diagram_of d) (site_in (diagram_of d) m) ≡ all (due_for m.values d.attributes.owners masks slots d.attributes.count) m.count
  unfolding rule3 site_in
  rule3-is = all-ext _ _ m.count (λ o l. due-for o (let few = coded.few in let h : o < 8 = omega arith in h))

  pub rule3-values : {r : Bool} → m.strays.values ≡ false → r ≡ all (due_for m.values d.attributes.owners masks slots d.attributes.count) m.count
      → r ≡ rule3_in (diagram_of d) m
  unfolding rule3_in
  rule3-values e q = both_yes (ap not e) (q ∙ sym rule3-is)

  -- ---- rule 4

  -- the value that is kept at x belongs to the value type of attribute a by the value type of its code
  belongs-is : (x a : ℕ) → x / 32 < m.count → x % 32 < d.attributes.count → value_in m (x / 32) (x % 32) ≢ 0 → a < d.attributes.count
      → belongs (kept_value (diagram_of d) m x) (value_type_at (diagram_of d) (attribute_at (diagram_of d) a).value_type) ≡ eqb (get_or d.attributes.types a 0) ((value_in m (x / 32) (x % 32) - 1) / 8)
  unfolding kept_value
  belongs-is x a lo ls some la =
      let k = value_in m (x / 32) (x % 32) - 1 in
      let t = (attribute_at (diagram_of d) a).value_type in
      let known = (held.wf.attribute a (below la)).value-type-known in
      ⊎_elim (λ v. belongs-known (diagram_of d) held.wf (kept_value (diagram_of d) m x) t k known v refl refl)
      (λ z. belongs-none (diagram_of d) held.wf (kept_value (diagram_of d) m x) t k known (let q : k ≡ 96 = omega arith in q) refl)
      (coded.codes (x / 32) (x % 32) lo (below ls) some)
      ∙ ap (λ (u : ℕ). eqb u (k / 8)) (attribute-type d a la)

  own_is : (s : ℕ) → own_attribute (diagram_of d) s ≡ own_slot slots d.attributes.count s
  own_is = own-attribute d slots at

  kept-is : (x : ℕ) → value_kept (diagram_of d) m x ≡ both (own_slot slots d.attributes.count (x % 32)) (not (eqb (get_or m.values x 0) 0))
  unfolding value_kept
  kept-is x = ap₂ (λ (b : Bool) (k : ℕ). both b (not (eqb (get_or m.values k 0) 0))) (own_is (x % 32)) (let q : x / 32 * 32 + x % 32 ≡ x = omega arith in q)

  agrees-is : (x : ℕ) → x / 32 < m.count → own_slot slots d.attributes.count (x % 32) ≡ true → get_or m.values x 0 ≢ 0
      → rule4_at (diagram_of d) (site_in (diagram_of d) m) (kept_value (diagram_of d) m x)
      ≡ all (agrees_at d.attributes.owners d.attributes.types masks slots (x / 32) (x % 32) ((get_or m.values x 0 - 1) / 8)) d.attributes.count
  unfolding rule4_at agrees_at own_slot kept_value
  agrees-is x lo own some =
      let few = coded.few in
      let h : x / 32 < 8 = omega arith in
      let same : x / 32 * 32 + x % 32 ≡ x = omega arith in
      let ls : x % 32 < d.attributes.count = ltb-true _ _ (both_left (ltb (x % 32) d.attributes.count) _ own) in
      let s : get_or slots (x % 32) 0 ≡ x % 32 = eqb-true _ _ (both_right (ltb (x % 32) d.attributes.count) _ own) in
      let some' : value_in m (x / 32) (x % 32) ≢ 0 = λ z. some (ap (λ (k : ℕ). get_or m.values k 0) (sym same) ∙ z) in
      ap (all _) (attribute-count d)
      ∙ all-ext _ (agrees_at d.attributes.owners d.attributes.types masks slots (x / 32) (x % 32) ((get_or m.values x 0 - 1) / 8)) d.attributes.count
      (λ a la.
      ap₂ imp
      (declares-is (x / 32) (x % 32) a h ls la ∙ ap (λ (k : ℕ). declares_at d.attributes.owners masks slots (x / 32) k a) s)
      (belongs-is x a lo ls some' la ∙ ap (λ (k : ℕ). eqb (get_or d.attributes.types a 0) ((get_or m.values k 0 - 1) / 8)) same))

  value-at : (x : ℕ) → x < m.count * 32
      → imp (value_kept (diagram_of d) m x) (rule4_at (diagram_of d) (site_in (diagram_of d) m) (kept_value (diagram_of d) m x))
      ≡ value_fits m.values d.attributes.owners d.attributes.types masks slots d.attributes.count x
  unfolding value_fits
  value-at x l =
      let kept = both (own_slot slots d.attributes.count (x % 32)) (not (eqb (get_or m.values x 0) 0)) in
      ap (λ (b : Bool). imp b (rule4_at (diagram_of d) (site_in (diagram_of d) m) (kept_value (diagram_of d) m x))) (kept-is x)
      ∙ imp-under kept _ _
      (λ e.
      agrees-is x (let h : x / 32 < m.count = omega arith in h) (both_left (own_slot slots d.attributes.count (x % 32)) _ e)
      (eqb-false _ _ (not-true (eqb (get_or m.values x 0) 0) (both_right (own_slot slots d.attributes.count (x % 32)) _ e))))

  pub rule4-values : {r : Bool} → r ≡ all (value_fits m.values d.attributes.owners d.attributes.types masks slots d.attributes.count) (m.count * 32)
      → r ≡ rule4 (diagram_of d) (site_in (diagram_of d) m)
  unfolding rule4 site_in
  rule4-values e = e ∙ sym (all-ext _ _ (m.count * 32) value-at)

pub rule3-stray : (d : StoredDiagram) (m : MemoryRecord) → m.strays.values ≡ true → false ≡ rule3_in (diagram_of d) m
unfolding rule3_in
rule3-stray d m e = both-no _ (ap not e)
