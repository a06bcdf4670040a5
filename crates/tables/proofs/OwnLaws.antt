-- A type's own name has its own index, so that what a record in memory says of type names is said of indices.
-- Assumes nothing.
use Prim.Native.Nat.{◌<◌, suc, zero, ℕ}
use mathlib.Core.Bool.{Bool}
use mathlib.Core.List.{List, []}
use mathlib.Core.Path.{◌∙◌, ◌≡◌, ap, refl, subst, sym}
use lib.Dec.{eqb, ltb}
use lib.ListN.{get_or, length}
use borrow.Author.Tests.{eq-eqb, eqb-true, lt-ltb, ltb-true}
use Rattle.laws.specs.Bounded.{any}
use Rattle.laws.specs.Connective.{both, either}
use Rattle.laws.proofs.BoundedLaws.{any_at, any-ext, any_of}
use Rattle.laws.proofs.ConnectiveLaws.{both_left, both_of, both_right, same_test}
use Rattle.files.specs.Ancestor.{parent_at, parent_count, reaches, reaches_by}
use Rattle.files.specs.Diagram.{Diagram, TypeDef}
use Rattle.files.specs.WellFormedDiagram.{WfDiagram}
use Rattle.records.specs.declared.MemoryRecord.{MemoryRecord}
use Rattle.records.proofs.SlotLaws.{index_of}
use Rattle.rules.specs.Instance.{has_type, is_instance}
use Rattle.memory_rules.specs.SiteIn.{site_in, typed_in}

-- ---- in general: the test holds at index k and no other

pub any-is : (q : ℕ → Bool) (k n : ℕ) → any (λ i. both (eqb i k) (q i)) n ≡ both (ltb k n) (q k)
any-is q k n =
    same_test (any (λ i. both (eqb i k) (q i)) n) (both (ltb k n) (q k))
    (λ e.
    let w = any_at (λ i. both (eqb i k) (q i)) n e in
    let s = eqb-true w.0 k (both_left (eqb w.0 k) (q w.0) w.2) in
    both_of (ltb k n) (q k) (lt-ltb k n (subst (λ (i : ℕ). i < n) s w.1)) (ap q (sym s) ∙ both_right (eqb w.0 k) (q w.0) w.2))
    (λ e.
    any_of (λ i. both (eqb i k) (q i)) n k (ltb-true k n (both_left (ltb k n) (q k) e))
    (both_of (eqb k k) (q k) (eq-eqb k k refl) (both_right (ltb k n) (q k) e)))

-- ---- types

module _ (d : Diagram) (wf : WfDiagram d) where
  -- object o has type i exactly when i stands at its place
  pub has-type : (m : MemoryRecord) (o i : ℕ) → i < length d.types → has_type d (site_in d m) o i ≡ eqb i (get_or m.types o 0)
  unfolding has_type site_in typed_in
  has-type m o i l = ap (λ (k : ℕ). eqb k (get_or m.types o 0)) (index_of d wf i l)

  -- whatever is asked of an object's type is asked of the type that stands at its place
  pub any-type : (m : MemoryRecord) (q : ℕ → Bool) (o : ℕ)
      → any (λ i. both (has_type d (site_in d m) o i) (q i)) (length d.types) ≡ both (ltb (get_or m.types o 0) (length d.types)) (q (get_or m.types o 0))
  any-type m q o =
      any-ext (λ i. both (has_type d (site_in d m) o i) (q i)) (λ i. both (eqb i (get_or m.types o 0)) (q i)) (length d.types)
      (λ i l. ap (λ (b : Bool). both b (q i)) (has-type m o i l))
      ∙ any-is q (get_or m.types o 0) (length d.types)

  pub is-instance : (m : MemoryRecord) (t o : ℕ)
      → is_instance d (site_in d m) t o ≡ both (ltb (get_or m.types o 0) (length d.types)) (reaches d (get_or m.types o 0) t)
  unfolding is_instance
  is-instance m t o = any-type m (λ i. reaches d i t) o
