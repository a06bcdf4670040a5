-- What a diagram declares for an object whose type has a name is what is due by that name's type and the attribute name's slot.
-- Assumes nothing.
use Prim.Native.Nat.{◌<◌, ℕ}
use mathlib.Core.Bool.{Bool, cond, false, not, true}
use mathlib.Core.Logic.{◌≢◌, ⊎_elim}
use mathlib.Core.Path.{◌∙◌, ◌≡◌, ap, ap₂, refl, subst, sym}
use lib.Dec.{eqb, ltb}
use lib.ListN.{length}
use borrow.Author.Tests.{lt-ltb, ltb-true, ne_eqb}
use Rattle.laws.specs.Bounded.{any}
use Rattle.laws.specs.Connective.{both, imp}
use Rattle.laws.proofs.BoundedLaws.{all-ext, all_of, any_at, any-ext, any_none}
use Rattle.laws.proofs.ConnectiveLaws.{both-chain, both_right, known}
use Rattle.files.specs.Ancestor.{reaches}
use Rattle.files.specs.Diagram.{Diagram, attribute_at, is_concrete, type_at, value_type_at}
use Rattle.files.specs.Name.{Name, key}
use Rattle.files.specs.Record.{Value}
use Rattle.files.specs.WellFormedDiagram.{WfDiagram}
use Rattle.records.specs.Slots.{attribute_slot, type_index}
use Rattle.records.proofs.SlotLaws.{attribute-alike, attribute-known, attribute-same, index-alike, index_of, index_same}
use Rattle.rules.specs.Instance.{has_type, is_instance}
use Rattle.rules.specs.TypeRules.{rule1_at}
use Rattle.rules.specs.ValueRules.{belongs, declared, declares, rule4_at}
use Rattle.tables.proofs.OwnLaws.{any-is}
use Rattle.type_tables.specs.Due.{declares_for, due}
use Rattle.type_values.specs.Bad.{alone}
use Rattle.type_values.specs.Named.{due_named, fits_due}
use Rattle.type_values.proofs.AloneLaws.{alone-typed, declares-alone}
use Rattle.type_values.proofs.JoinedLaws.{Due, due-declared, due-fits, due-known}

-- names of one key: the same is due
pub named-alike : (d : Diagram) (type v w : Name) → key v ≡ key w → due_named d type v ≡ due_named d type w
unfolding due_named
named-alike d type v w e = ap (λ (s : ℕ). cond (ltb (type_index d type) (length d.types)) (due d (type_index d type) s) 0) (attribute-alike d v w e)

pub named-alike-type : (d : Diagram) (v w a : Name) → key v ≡ key w → due_named d v a ≡ due_named d w a
unfolding due_named
named-alike-type d v w a e = ap (λ (t : ℕ). cond (ltb t (length d.types)) (due d t (attribute_slot d a)) 0) (index-alike d v w e)

module _ (d : Diagram) (wf : WfDiagram d) (name : Name) where
  -- the type of this name
  abbrev type : ℕ
  type = type_index d name

  abbrev count : ℕ
  count = length d.types

  any-named : (q : ℕ → Bool) → any (λ i. both (has_type d (alone name) 0 i) (q i)) count ≡ both (ltb type count) (q type)
  unfolding has_type
  any-named q =
      any-ext (λ i. both ((alone name).typed 0 (type_at d i).name) (q i)) (λ i. both (eqb i type) (q i)) count
      (λ i l. ap (λ (b : Bool). both b (q i)) (alone-typed name 0 _ ∙ sym (index_same d wf i name l)))
      ∙ any-is q type count

  pub rule1-named : rule1_at d (alone name) 0 ≡ both (ltb type count) (is_concrete (type_at d type))
  unfolding rule1_at
  rule1-named = any-named (λ i. is_concrete (type_at d i))

  declares-named : (a : ℕ) (w : Name) → a < length d.attributes → declares d (alone name) 0 a w ≡ both (ltb type count) (declares_for d type (attribute_slot d w) a)
  unfolding declares declares_for is_instance
  declares-named a w l =
      ap₂ both (any-named (λ i. reaches d i (attribute_at d a).owner)) (attribute-same d a w l) ∙ sym (both-chain (ltb type count) _ _)

  -- the name has a type, or it has none
  declares-known : type < count → (a : ℕ) (w : Name) → a < length d.attributes → declares d (alone name) 0 a w ≡ declares_for d type (attribute_slot d w) a
  unfolding both
  declares-known k a w l = declares-named a w l ∙ ap (λ (b : Bool). both b (declares_for d type (attribute_slot d w) a)) (lt-ltb type count k)

  declares-unknown : ltb type count ≡ false → (a : ℕ) (w : Name) → a < length d.attributes → declares d (alone name) 0 a w ≡ false
  unfolding both
  declares-unknown k a w l = declares-named a w l ∙ ap (λ (b : Bool). both b (declares_for d type (attribute_slot d w) a)) k

  pub named-known : type < count → (w : Name) → due_named d name w ≡ due d type (attribute_slot d w)
  unfolding due_named
  named-known k w = ap (λ (b : Bool). cond b (due d type (attribute_slot d w)) 0) (lt-ltb type count k)

  named-unknown : ltb type count ≡ false → (w : Name) → due_named d name w ≡ 0
  unfolding due_named
  named-unknown k w = ap (λ (b : Bool). cond b (due d type (attribute_slot d w)) 0) k

  pub named-due : (w : Name) → Due d (due_named d name w)
  named-due w =
      ⊎_elim (λ k. subst (Due d) (sym (named-known (ltb-true _ _ k) w)) (due-known d wf type (attribute_slot d w)))
      (λ k. subst (Due d) (sym (named-unknown k w)) (record { type-known = λ n. absurd (n refl) })) (known (ltb type count))

  -- ---- rule 3: what is declared

  pub named-declared : (w : Name) → declared d (alone name) 0 w ≡ not (eqb (due_named d name w) 0)
  unfolding declared
  named-declared w =
      ⊎_elim
      (λ k.
      any-ext _ _ (length d.attributes) (λ a l. declares-known (ltb-true _ _ k) a w l) ∙ due-declared d wf type (attribute_slot d w)
      ∙ ap (λ (e : ℕ). not (eqb e 0)) (sym (named-known (ltb-true _ _ k) w)))
      (λ k. any_none _ (length d.attributes) (λ a l. declares-unknown k a w l) ∙ ap (λ (e : ℕ). not (eqb e 0)) (sym (named-unknown k w)))
      (known (ltb type count))

  -- a name for which something is due is one of the diagram's, in the slot that is its own
  pub named-slot : (w : Name) → due_named d name w ≢ 0 → attribute_slot d w < length d.attributes
  unfolding declared declares
  named-slot w n =
      let a = any_at _ (length d.attributes) (named-declared w ∙ ap not (ne_eqb _ _ n)) in
      attribute-known d w a.0 a.1 (both_right _ _ a.2)

  -- ---- rule 4: what a value belongs to

  pub named-fits : (v : Value) → rule4_at d (alone name) v ≡ fits_due d v (due_named d name v.attribute)
  unfolding rule4_at
  named-fits v =
      ⊎_elim
      (λ k.
      all-ext _ _ (length d.attributes) (λ a l. ap (λ (b : Bool). imp b (own a)) (of-object a ∙ declares-known (ltb-true _ _ k) a v.attribute l))
      ∙ due-fits d wf type (attribute_slot d v.attribute) v ∙ ap (fits_due d v) (sym (named-known (ltb-true _ _ k) v.attribute)))
      (λ k.
      all_of _ (length d.attributes) (λ a l. ap (λ (b : Bool). imp b (own a)) (of-object a ∙ declares-unknown k a v.attribute l) ∙ nothing _)
      ∙ sym (ap (fits_due d v) (named-unknown k v.attribute) ∙ none))
      (known (ltb type count))
    where
      own : ℕ → Bool
      own a = belongs v (value_type_at d (attribute_at d a).value_type)

      of-object : (a : ℕ) → declares d (alone name) v.object a v.attribute ≡ declares d (alone name) 0 a v.attribute
      of-object a = declares-alone d (alone name) v.object name (alone-typed name v.object) a v.attribute

      nothing : (b : Bool) → imp false b ≡ true
      nothing b = unfold imp in refl

      none : fits_due d v 0 ≡ true
      none = unfold fits_due in refl

-- ---- a type's own name

module _ (d : Diagram) (wf : WfDiagram d) (t : ℕ) (known : t < length d.types) where
  pub named-own : (w : Name) → due_named d (type_at d t).name w ≡ due d t (attribute_slot d w)
  named-own w =
      let i : type_index d (type_at d t).name ≡ t = index_of d wf t known in
      named-known d wf (type_at d t).name (subst (λ (n : ℕ). n < length d.types) (sym i) known) w ∙ ap (λ (n : ℕ). due d n (attribute_slot d w)) i
