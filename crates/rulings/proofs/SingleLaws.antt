-- Rule 2 holds exactly when no singleton class of d lacks an index of old and each type of the table has one object.
-- Assumes nothing.
use Prim.Native.Nat.{◌<◌, ◌≤◌, ℕ}
use native.Mathlib.Decide.{dec_lt}
use native.Mathlib.Nat.{ne_of_lt}
use native.Mathlib.Omega.{arith}
use mathlib.Core.Bool.{false, false≢true, true}
use mathlib.Core.Logic.{◌↔◌}
use mathlib.Core.Path.{◌∙◌, ◌≡◌, ap, sym}
use lib.Dec.{eqb}
use lib.ListN.{length}
use borrow.Author.Tests.{eq-eqb, eqb-true, ne_eqb}
use Rattle.laws.specs.Bits.{bit}
use Rattle.laws.specs.Bounded.{tally}
use Rattle.laws.proofs.BoundedLaws.{all-at, all_of, any_at, any_of, tally-none, eqb-turned}
use Rattle.laws.proofs.ConnectiveLaws.{both_left, both_of, both_right, imp-of, imp_use, same_test, true-false}
use Rattle.laws.proofs.CountLaws.{tally-ext}
use Rattle.laws.proofs.FirstLaws.{first-le}
use Rattle.files.specs.Diagram.{Diagram, is_singleton, type_at}
use Rattle.files.specs.Name.{Name}
use Rattle.files.specs.WellFormedDiagram.{WfDiagram}
use Rattle.records.specs.declared.MemoryRecord.{MemoryRecord}
use Rattle.records.specs.Slots.{type_index}
use Rattle.rules.specs.Instance.{has_type}
use Rattle.rules.specs.TypeRules.{rule2, rule2_at}
use Rattle.memory_rules.specs.SiteIn.{site_in, typed_in}
use Rattle.worlds.specs.Kept.{SinglesKept, world_in, world_of}
use Rattle.worlds.specs.Tables.{SingleTypes, single_by, single_missing}
use Rattle.rulings.specs.Shaped.{Shaped, kind_in}

index-most : (old : Diagram) (n : Name) → type_index old n ≤ length old.types
unfolding type_index
index-most old n = first-le _ (length old.types)

module _ (old d : Diagram) (m : MemoryRecord) where
  -- how many objects have old's type t
  abbrev objects_of : ℕ → ℕ
  objects_of t = tally (λ o. eqb (kind_in m o) t) m.count

  objects-are : (i : ℕ) → tally (λ o. has_type d (site_in old m) o i) m.count ≡ objects_of (type_index old (type_at d i).name)
  unfolding has_type site_in typed_in
  objects-are i = tally-ext _ _ m.count (λ o l. eqb-turned (type_index old (type_at d i).name) (kind_in m o))

  rule2-at : rule2 d (site_in old m) ≡ true → (i : ℕ) → i < length d.types → is_singleton (type_at d i) ≡ true → objects_of (type_index old (type_at d i).name) ≡ 1
  unfolding rule2 rule2_at site_in
  rule2-at e i l q = sym (objects-are i) ∙ eqb-true _ _ (imp_use _ _ (all-at _ (length d.types) e i l) q)

  rule2-of : ((i : ℕ) → i < length d.types → is_singleton (type_at d i) ≡ true → objects_of (type_index old (type_at d i).name) ≡ 1) → rule2 d (site_in old m) ≡ true
  unfolding rule2 rule2_at site_in
  rule2-of f = all_of _ (length d.types) (λ i l. imp-of _ _ (λ q. eq-eqb _ _ (objects-are i ∙ f i l q)))

  single_of : (t : ℕ) → rule2 d (site_in old m) ≡ true → single_by old d t ≡ true → objects_of t ≡ 1
  unfolding single_by
  single_of t e q =
      let w = any_at _ (length d.types) q in
      ap objects_of (sym (eqb-true _ _ (both_right _ _ w.2))) ∙ rule2-at e w.0 w.1 (both_left _ _ w.2)

  single-is : (i : ℕ) → i < length d.types → is_singleton (type_at d i) ≡ true → (t : ℕ) → type_index old (type_at d i).name ≡ t → single_by old d t ≡ true
  unfolding single_by
  single-is i l q t e = any_of _ (length d.types) i l (both_of _ _ q (eq-eqb _ _ e))

  module _ (wo : WfDiagram old) (h : Shaped old m) (singles : ℕ) (of : SingleTypes old d singles) where
    -- no object has a type past the last one
    none-past : objects_of (length old.types) ≡ 0
    none-past = tally-none _ m.count (λ o l. ne_eqb (kind_in m o) (length old.types) (ne_of_lt (h.known o l)))

    none-missing : rule2 d (site_in old m) ≡ true → single_missing old d ≡ false
    unfolding single_missing
    none-missing e = same_test _ false (λ q. let one : objects_of (length old.types) ≡ 1 = single_of (length old.types) e q in let none = none-past in absurd (omega arith)) (λ q. absurd (false≢true q))

    forth : rule2 d (site_in old m) ≡ true → (t : ℕ) → t < 24 → bit t singles ≡ true → objects_of t ≡ 1
    forth e t l q = go (dec_lt t (length old.types))
      where
        go : Dec (t < length old.types) → objects_of t ≡ 1
        go (yes b) = single_of t e (sym (of.at t b) ∙ q)
        go (no b) = absurd (true-false q (of.none t (omega arith)))

    back : single_missing old d ≡ false → ((t : ℕ) → t < 24 → bit t singles ≡ true → objects_of t ≡ 1) → rule2 d (site_in old m) ≡ true
    unfolding single_missing
    back none k = rule2-of one
      where
        one : (i : ℕ) → i < length d.types → is_singleton (type_at d i) ≡ true → objects_of (type_index old (type_at d i).name) ≡ 1
        one i l q = go (dec_lt (type_index old (type_at d i).name) (length old.types))
          where
            go : Dec (type_index old (type_at d i).name < length old.types) → objects_of (type_index old (type_at d i).name) ≡ 1
            go (yes b) =
                let few : length old.types ≤ 24 = wo.few-types in
                k (type_index old (type_at d i).name) (omega arith) (of.at (type_index old (type_at d i).name) b ∙ single-is i l q (type_index old (type_at d i).name) (λ j. type_index old (type_at d i).name))
            go (no b) = absurd (true-false (single-is i l q (length old.types) (omega (arith, index-most old (type_at d i).name))) none)

    pub rule2-kept : (rule2 d (site_in old m) ≡ true) ↔ ((single_missing old d ≡ false) × SinglesKept singles (world_of m))
    unfolding world_in
    rule2-kept = ((λ e. (none-missing e, record { at = forth e })), (λ k. back k.0 k.1.at))
