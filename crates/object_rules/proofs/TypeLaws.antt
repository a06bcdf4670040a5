-- Rules 1 and 2 on numbers are the rules: an object's type by name is the index at its place.
-- Assumes nothing.
use Prim.Native.Nat.{◌<◌, ℕ}
use mathlib.Core.Bool.{Bool}
use mathlib.Core.Path.{◌∙◌, ◌≡◌, ap, ap₂, subst, sym}
use lib.Dec.{eqb, ltb}
use lib.ListN.{get_or}
use borrow.Author.Tests.{ltb-true}
use Rattle.laws.specs.Bounded.{all, tally}
use Rattle.laws.specs.Connective.{both, either, imp}
use Rattle.laws.proofs.BoundedLaws.{all-ext}
use Rattle.laws.proofs.CountLaws.{tally-ext}
use Rattle.laws.proofs.ConnectiveLaws.{both_under}
use Rattle.files.specs.Diagram.{TypeDef, is_concrete, is_singleton, type_at}
use Rattle.diagrams.specs.declared.StoredDiagram.{StoredDiagram}
use Rattle.diagrams.specs.View.{diagram_of, type_in}
use Rattle.diagrams.specs.Held.{Held}
use Rattle.diagrams.proofs.ViewLaws.{type-at, type-count}
use Rattle.records.specs.declared.MemoryRecord.{MemoryRecord}
use Rattle.rules.specs.Instance.{has_type}
use Rattle.rules.specs.TypeRules.{rule1, rule1_at, rule2, rule2_at}
use Rattle.memory_rules.specs.SiteIn.{site_in}
use Rattle.tables.proofs.OwnLaws.{any-type, has-type}
use Rattle.object_rules.specs.TypesIn.{concrete_at, single_at, typed_at}

module _ (d : StoredDiagram) (held : Held d) (m : MemoryRecord) where
  concrete-is : (i : ℕ) → i < d.types.count → is_concrete (type_at (diagram_of d) i) ≡ either (eqb (get_or d.types.kinds i 0) 0) (eqb (get_or d.types.kinds i 0) 3)
  unfolding is_concrete type_in
  concrete-is i l = ap (λ (t : TypeDef). either (eqb t.kind 0) (eqb t.kind 3)) (type-at d i l)

  concrete-at : (o : ℕ) → rule1_at (diagram_of d) (site_in (diagram_of d) m) o ≡ concrete_at d.types.kinds d.types.count m.types o
  unfolding rule1_at concrete_at
  concrete-at o =
      let i = get_or m.types o 0 in
      any-type (diagram_of d) held.wf m (λ i. is_concrete (type_at (diagram_of d) i)) o
      ∙ ap (λ (n : ℕ). both (ltb i n) (is_concrete (type_at (diagram_of d) i))) (type-count d)
      ∙ both_under _ _ _ (λ e. concrete-is i (ltb-true i d.types.count e))

  pub rule1-types : {r : Bool} → r ≡ all (concrete_at d.types.kinds d.types.count m.types) m.count → r ≡ rule1 (diagram_of d) (site_in (diagram_of d) m)
  unfolding rule1 site_in
  rule1-types e = e ∙ sym (all-ext _ _ m.count (λ o l. concrete-at o))

  singleton-is : (i : ℕ) → i < d.types.count → is_singleton (type_at (diagram_of d) i) ≡ eqb (get_or d.types.kinds i 0) 3
  unfolding is_singleton type_in
  singleton-is i l = ap (λ (t : TypeDef). eqb t.kind 3) (type-at d i l)

  typed-is : (i : ℕ) → i < d.types.count → tally (λ o. has_type (diagram_of d) (site_in (diagram_of d) m) o i) m.count ≡ tally (typed_at m.types i) m.count
  unfolding typed_at
  typed-is i l = tally-ext _ _ m.count (λ o h. has-type (diagram_of d) held.wf m o i (subst (λ (n : ℕ). i < n) (sym (type-count d)) l))

  single-at : (i : ℕ) → i < d.types.count → rule2_at (diagram_of d) (site_in (diagram_of d) m) i ≡ single_at d.types.kinds m.types m.count i
  unfolding rule2_at single_at site_in
  single-at i l = ap₂ (λ (a : Bool) (n : ℕ). imp a (eqb n 1)) (singleton-is i l) (typed-is i l)

  pub rule2-types : {r : Bool} → r ≡ all (single_at d.types.kinds m.types m.count) d.types.count → r ≡ rule2 (diagram_of d) (site_in (diagram_of d) m)
  unfolding rule2
  rule2-types e = e ∙ sym (ap (all (rule2_at (diagram_of d) (site_in (diagram_of d) m))) (type-count d) ∙ all-ext _ _ d.types.count single-at)
