-- The tables of numbers are those of the diagram: a kept set has what is reached, and a row of names has the diagram's names.
-- Assumes nothing.
use Prim.Native.Nat.{◌*◌, ◌<◌, ◌≤◌, ℕ}
use native.Mathlib.Decide.{dec_lt}
use native.Mathlib.Omega.{arith}
use mathlib.Core.Bool.{Bool, ◌&&◌, cond, false, true}
use mathlib.Core.List.{List}
use mathlib.Core.Path.{◌∙◌, ◌≡◌, ap, ap₂, refl, sym}
use lib.Dec.{ltb}
use lib.ListN.{get_or, length}
use borrow.Author.Tests.{le-ltb, lt-ltb, ltb-true}
use Rattle.laws.specs.Bits.{Marks, bit}
use Rattle.laws.specs.Bounded.{first}
use Rattle.laws.specs.Connective.{both}
use Rattle.laws.proofs.BitLaws.{bit-zero}
use Rattle.laws.proofs.FirstLaws.{first-ext}
use Rattle.files.specs.Ancestor.{reaches}
use Rattle.files.specs.Diagram.{Attribute, Diagram, attribute_at}
use Rattle.files.specs.Name.{Name, same_name}
use Rattle.fields.specs.Slot.{slot_name}
use Rattle.diagrams.specs.declared.StoredDiagram.{StoredDiagram}
use Rattle.diagrams.specs.View.{attribute_in, diagram_of}
use Rattle.diagrams.specs.Held.{Held, only_types}
use Rattle.diagrams.proofs.NamedLaws.{attribute-named, role-named}
use Rattle.diagrams.proofs.ViewLaws.{association-count, attribute-at, attribute-count, type-count}
use Rattle.records.specs.declared.MemoryRecord.{MemoryRecord}
use Rattle.records.specs.Slots.{attribute_slot, role_name, role_slot}
use Rattle.rules.specs.Instance.{is_instance}
use Rattle.memory_rules.specs.SiteIn.{site_in}
use Rattle.tables.specs.Numbers.{counts_as, set_at, slot_at}
use Rattle.tables.specs.Tables.{AttributeSlots, Instances, RoleSlots}
use Rattle.diagrams.proofs.FirstSetLaws.{set-reaches}
use Rattle.tables.proofs.OwnLaws.{is-instance}

-- ---- a kept set, in the terms of the code's tests

pub set_known : (sets types : List ℕ) (n o : ℕ) {i j : ℕ} → j ≡ o → i ≡ get_or types j 0 → i < n → get_or sets i 0 ≡ set_at sets n types o
unfolding set_at
set_known sets types n o {i} {j} e q l =
    let s : get_or types o 0 ≡ i = ap (λ (k : ℕ). get_or types k 0) (sym e) ∙ sym q in
    rw (s, lt-ltb i n l)

pub set-unknown : (sets types : List ℕ) (n o : ℕ) {i j : ℕ} → j ≡ o → i ≡ get_or types j 0 → n ≤ i → 0 ≡ set_at sets n types o
unfolding set_at
set-unknown sets types n o {i} {j} e q l =
    let s : get_or types o 0 ≡ i = ap (λ (k : ℕ). get_or types k 0) (sym e) ∙ sym q in
    rw (s, le-ltb i n l)

-- ---- instances

module _ (d : StoredDiagram) (held : Held d) where
  pub counts-as-instance : (m : MemoryRecord) (k o : ℕ) → counts_as d.types.sets d.types.count m.types k o ≡ is_instance (diagram_of d) (site_in (diagram_of d) m) k o
  unfolding counts_as set_at both
  counts-as-instance m k o = go (ltb i n) refl ∙ sym (is-instance (diagram_of d) held.wf m k o ∙ ap (λ (c : ℕ). both (ltb i c) (reaches (diagram_of d) i k)) (type-count d))
    where
      i : ℕ
      i = get_or m.types o 0

      n : ℕ
      n = d.types.count

      go : (b : Bool) → ltb i n ≡ b → bit k (cond b (get_or d.types.sets i 0) 0) ≡ both b (reaches (diagram_of d) i k)
      go true e = set-reaches d held i k (ltb-true i n e)
      go false e = bit-zero k

  pub instances-of : (m : MemoryRecord) (masks : List ℕ) → m.count ≤ 8
      → ((k : ℕ) → k < 24 → Marks (counts_as d.types.sets d.types.count m.types k) 8 (get_or masks k 0)) → Instances (diagram_of d) m masks
  instances-of m masks few f = record {
    exact = λ t o l h. at t o l (let q : o < 8 = omega arith in q);
    beyond = λ t o l h q. at t o l q;
  }
    where
      at : (t o : ℕ) → t < length (diagram_of d).types → o < 8 → bit o (get_or masks t 0) ≡ is_instance (diagram_of d) (site_in (diagram_of d) m) t o
      at t o l h =
          f t (let q : t < 24 = omega (arith, type-count d, held.counts.types) in q) o
          ∙ ap (λ (b : Bool). b && counts_as d.types.sets d.types.count m.types t o) (lt-ltb o 8 h)
          ∙ counts-as-instance m t o

-- for any of the eight places
pub instances-at : (d : Diagram) (m : MemoryRecord) (masks : List ℕ) → Instances d m masks → (t o : ℕ) → t < length d.types → o < 8
    → is_instance d (site_in d m) t o ≡ bit o (get_or masks t 0)
instances-at d m masks is t o l h = go (dec_lt o m.count)
  where
    go : Dec (o < m.count) → is_instance d (site_in d m) t o ≡ bit o (get_or masks t 0)
    go (yes q) = sym (is.exact t o l q)
    go (no q) = sym (is.beyond t o l (omega arith) h)

-- ---- declarations, by the arrays, and slots

module _ (d : StoredDiagram) where
  pub attribute-owner : (i : ℕ) → i < d.attributes.count → (attribute_at (diagram_of d) i).owner ≡ get_or d.attributes.owners i 0
  unfolding attribute_in
  attribute-owner i l = ap (λ (a : Attribute). a.owner) (attribute-at d i l)

  pub attribute-type : (i : ℕ) → i < d.attributes.count → (attribute_at (diagram_of d) i).value_type ≡ get_or d.attributes.types i 0
  unfolding attribute_in
  attribute-type i l = ap (λ (a : Attribute). a.value_type) (attribute-at d i l)

  pub attribute-slots-of : (slots : List ℕ) (n : ℕ) → n ≡ d.attributes.count
      → ((i : ℕ) → i < n → get_or slots i 0 ≡ slot_at d.attributes.names n i) → AttributeSlots (diagram_of d) slots
  unfolding slot_at attribute_slot
  attribute-slots-of slots n e f = record {
    exact = λ a l.
        let c = attribute-count d in
        let h : a < n = omega arith in
        f a h
        ∙ first-ext (λ t. same_name (slot_name d.attributes.names t) (slot_name d.attributes.names a)) (λ t. same_name (attribute_at (diagram_of d) t).name (attribute_at (diagram_of d) a).name) n
        (λ k q. ap₂ (λ (v w : Name). same_name v w) (sym (attribute-named d k (omega arith))) (sym (attribute-named d a (omega arith))))
        ∙ ap (first (λ t. same_name (attribute_at (diagram_of d) t).name (attribute_at (diagram_of d) a).name)) (e ∙ sym c);
  }

  pub role-slots-of : (slots : List ℕ) (n : ℕ) → n ≡ d.associations.count * 2
      → ((i : ℕ) → i < n → get_or slots i 0 ≡ slot_at d.associations.roles n i) → RoleSlots (diagram_of d) slots
  unfolding slot_at role_slot role_name
  role-slots-of slots n e f = record {
    exact = λ a l.
        let c = association-count d in
        let h : a < n = omega arith in
        f a h
        ∙ first-ext (λ t. same_name (slot_name d.associations.roles t) (slot_name d.associations.roles a)) (λ t. same_name (role_name (diagram_of d) t) (role_name (diagram_of d) a)) n
        (λ k q. ap₂ (λ (v w : Name). same_name v w) (sym (role-named d k (omega arith))) (sym (role-named d a (omega arith))))
        ∙ ap (first (λ t. same_name (role_name (diagram_of d) t) (role_name (diagram_of d) a))) (e ∙ ap (λ (k : ℕ). k * 2) (sym c));
  }
